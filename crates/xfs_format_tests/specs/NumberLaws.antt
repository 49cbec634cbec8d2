-- The laws of the kind of tree for tests.
use Rattle.std.proofs.Common.{◌≡◌, ℕ, ◌^◌, ◌<◌, Bool, ◌&&◌, true, false, nat_lt, Option, Some, None, Less, refl, sym, arith}
use Rattle.std.specs.Bool.{IsTrue}
use Rattle.std.specs.Cmp.{nat_cmp_is}
use Rattle.std.proofs.lemmas.Bool.{ltb-true}
use Rattle.std.proofs.lemmas.Nat.{from_be_bytes-to_be_bytes_4}
use Rattle.std.proofs.lemmas.Cmp.{nat_cmp_total, nat_eq_equiv}
use Rattle.xfs_tree.specs.Shape.{IsKind}
use Rattle.xfs_format_tests.specs.Numbers.{numbers_shape, is_number, is_next}

left : (a b : Bool) → (a && b) ≡ true → a ≡ true
left true b h = refl
left false b h = cc

right : (a b : Bool) → (a && b) ≡ true → b ≡ true
right true b h = h
right false b h = cc

fits_of : (before : Option ℕ) (n : ℕ) → IsTrue (is_next before n) → IsTrue (is_number n)
fits_of None n h = h
fits_of (Some before) n h = right (nat_lt before n) (is_number n) h

above : (a b : ℕ) → IsTrue (is_next (Some a) b) → a < b
above a b h = ltb-true a b (left (nat_lt a b) (is_number b) h)

pub numbers_kind : (owner : ℕ) → IsKind (numbers_shape owner)
numbers_kind owner = record {
  laid_out = record {
    some_bytes = omega arith;
    some_key = omega arith;
    some_records = omega arith;
    two_children = omega arith;
    leaf_fits = omega arith;
    node_fits = omega arith;
    long_magic = λ h. cc;
  };
  total = nat_cmp_total;
  same_as_itself = λ n. nat_eq_equiv.refl n;
  record_len = λ n h. refl;
  key_len = λ n h. refl;
  record_again = λ n h. from_be_bytes-to_be_bytes_4 n (ltb-true n (2 ^ 32) h);
  key_again = λ n h. from_be_bytes-to_be_bytes_4 n (ltb-true n (2 ^ 32) h);
  lawful_fits = λ v before n h. fits_of before n h;
  low_fits = λ n h. h;
  high_fits = λ n h. h;
  one_key = λ n h. refl;
  low_settled = λ n h. refl;
  high_settled = λ n h. refl;
  lawful_settled = λ v before n h. h;
  lawful_behind = λ v n next h. h;
  lawful_first = λ v n next first h. fits_of (Some n) next h;
  ascends = λ v n next first h. sym (nat_cmp_is n next Less (above n next h));
}

-- A kind of tree for tests: ascending numbers of four bytes, each its own key.
use Rattle.std.specs.Prelude.{ℕ, ◌^◌, ◌&&◌, ◌==◌, Bool, false, nat_lt, Option, Some, None}
use Rattle.std.specs.Int.{from_be_bytes, to_be_bytes, w32}
use Rattle.std.specs.Ordering.{nat_cmp}
use Rattle.xfs_tree.specs.declared.layout.Layout.{Layout}
use Rattle.xfs_tree.specs.Shape.{Shape}

abbrev pub numbers_layout : Layout
numbers_layout = record { magic = 7; long = false; high = false; record_len = 4; key_len = 4; leaf_cap = 3; node_cap = 2 }

abbrev pub is_number : ℕ → Bool
is_number n = nat_lt n (2 ^ 32)

-- a number behind another is greater
abbrev pub is_next : Option ℕ → ℕ → Bool
is_next None n = is_number n
is_next (Some before) n = nat_lt before n && is_number n

abbrev pub numbers_shape : ℕ → Shape ℕ ℕ
numbers_shape owner = record {
  layout = numbers_layout;
  owner = owner;
  record_of = λ bytes. from_be_bytes w32 bytes;
  record_bytes = λ n. to_be_bytes w32 n;
  key_of = λ bytes. from_be_bytes w32 bytes;
  key_bytes = λ n. to_be_bytes w32 n;
  low = λ n. n;
  high = λ n. n;
  order = nat_cmp;
  same = λ a b. a == b;
  fits = is_number;
  fits_key = is_number;
  lawful = λ v before n. is_next before n;
  settled = λ n. n;
}

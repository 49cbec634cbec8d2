-- The laws of the tree of a file's extents.
use Rattle.std.proofs.Common.{◌≡◌, ℕ, ◌+◌, ◌-◌, ◌^◌, ◌≤◌, ◌<◌, ◌&&◌, nat_lt, nat_le, IsTrue, List, [], ◌∷◌, length, Some, None, Less, refl, arith}
use Rattle.std.specs.Ordering.{nat_cmp}
use Rattle.std.proofs.lemmas.Bool.{and_parts, and_from, ltb-true, leb-true}
use Rattle.std.proofs.lemmas.Bool.Decides.{nat_tests}
use Rattle.std.proofs.lemmas.Cmp.{nat_cmp_total, nat_eq_equiv}
use Rattle.byteorder.specs.Endian.{big_number}
use Rattle.byteorder.specs.Numbers.{big_from-lt, length-bytes_high_first}
use Rattle.xfs_word.specs.Extent.{packed, extent_number, IsPackable}
use Rattle.xfs_word.specs.Field.{field_of}
use Rattle.xfs_word.specs.declared.extents.Extent.{Extent}
use Rattle.xfs_word.proofs.Parts.{unpacked, unpacked-packed, packed-unpacked}
use Rattle.xfs_word.proofs.Register.{AreBytes}
use Rattle.xfs_geom.specs.Volumes.{Volume}
use Rattle.xfs_tree.specs.Shape.{IsKind}
use Rattle.xfs_kinds.specs.Groups.{lies_in_one_group}
use Rattle.xfs_kinds.specs.FileTrees.{extent_of, fits_extent, is_extent, follows_offset, offset_of, offset_bytes, bmbt_shape}
use Rattle.xfs_kinds.specs.SpelledLaws.{length-spelled, spelled_again, spelled_from}

-- an extent that fits can be packed
pub packable : (e : Extent) → IsTrue (fits_extent e) → IsPackable e
packable e h =
    let a = and_parts (nat_lt e.offset (2 ^ 54) && nat_lt e.start (2 ^ 52)) (nat_lt e.count (2 ^ 21)) h in
    let b = and_parts (nat_lt e.offset (2 ^ 54)) (nat_lt e.start (2 ^ 52)) a.0 in
    record { offset = ltb-true e.offset (2 ^ 54) b.0; start = ltb-true e.start (2 ^ 52) b.1; count = ltb-true e.count (2 ^ 21) a.1 }

extent_len : (e : Extent) → length (packed e) ≡ 16
unfolding packed
extent_len e = length-bytes_high_first 16 (extent_number e)

extent_again : (e : Extent) → IsTrue (fits_extent e) → extent_of (packed e) ≡ e
unfolding extent_of unpacked
extent_again e h = unpacked-packed (packed e) (big_number 16 (packed e)) e refl (packable e h) refl

-- 16 bytes are those of the extent that is read from them
pub extent_spelt : (bytes : List ℕ) → AreBytes bytes → length bytes ≡ 16 → bytes ≡ packed (extent_of bytes)
unfolding extent_of unpacked
extent_spelt bytes all long =
    let small : big_number 16 bytes < 2 ^ 128 = big_from-lt 0 16 bytes all.below in
    packed-unpacked bytes (big_number 16 bytes) refl small long all

-- the extent that is read from bytes can be packed
pub extent_packable : (bytes : List ℕ) → IsPackable (extent_of bytes)
unfolding extent_of
extent_packable bytes = record { offset = omega arith; start = omega arith; count = omega arith }

-- bytes in which an offset stands are its bytes
pub offset_put : (offset : ℕ) (bytes : List ℕ) → AreBytes bytes → length bytes ≡ 8 → field_of bytes 0 8 ≡ offset → bytes ≡ offset_bytes offset
unfolding offset_bytes
offset_put offset bytes all long is = spelled_from ((8, offset) ∷ []) bytes 0 all long (is, tt)

offset_len : (offset : ℕ) → length (offset_bytes offset) ≡ 8
unfolding offset_bytes
offset_len offset = length-spelled ((8, offset) ∷ [])

offset_again : (offset : ℕ) → IsTrue (nat_lt offset (2 ^ 64)) → offset_of (offset_bytes offset) ≡ offset
unfolding offset_bytes
offset_again offset h =
    let small : offset < 256 ^ 8 = ltb-true offset (2 ^ 64) h in
    (spelled_again ((8, offset) ∷ []) (offset_bytes offset) 0 (small, tt) refl).0

offset_fits : (e : Extent) → IsTrue (fits_extent e) → IsTrue (nat_lt e.offset (2 ^ 64))
offset_fits e h = let small = (packable e h).offset in grind (arith, nat_tests, small)

-- the extents fit, and have some blocks
extent_fits : (v : Volume) (e : Extent) → IsTrue (is_extent v e) → IsTrue (fits_extent e) × (1 ≤ e.count)
extent_fits v e h =
    let a = and_parts (fits_extent e && nat_le 1 e.count && nat_le (e.offset + e.count) (2 ^ 54 - 1)) (lies_in_one_group v e.start e.count) h in
    let b = and_parts (fits_extent e && nat_le 1 e.count) (nat_le (e.offset + e.count) (2 ^ 54 - 1)) a.0 in
    let c = and_parts (fits_extent e) (nat_le 1 e.count) b.0 in
    (c.0, leb-true 1 e.count c.1)

offsets_ascend : (r next : Extent) → 1 ≤ r.count → IsTrue (follows_offset (Some r) next) → nat_cmp r.offset next.offset ≡ Less
offsets_ascend r next some h = grind (arith, nat_tests)

pub bmbt_kind : (ino : ℕ) → IsKind (bmbt_shape ino)
bmbt_kind ino = record {
  laid_out = record {
    some_bytes = omega arith;
    some_key = omega arith;
    some_records = omega arith;
    two_children = omega arith;
    leaf_fits = omega arith;
    node_fits = omega arith;
    long_magic = λ long. refl;
  };
  total = nat_cmp_total;
  same_as_itself = λ k. nat_eq_equiv.refl k;
  record_len = λ e h. extent_len e;
  key_len = λ offset h. offset_len offset;
  record_again = extent_again;
  key_again = offset_again;
  lawful_fits = λ v before e h. (extent_fits v e (and_parts (is_extent v e) (follows_offset before e) h).0).0;
  low_fits = offset_fits;
  high_fits = offset_fits;
  one_key = λ e h. refl;
  low_settled = λ e h. refl;
  high_settled = λ e h. refl;
  lawful_settled = λ v before e h. h;
  lawful_behind = λ v e next h. h;
  lawful_first = λ v e next one h. and_from (is_extent v next) (follows_offset None next) (and_parts (is_extent v next) (follows_offset (Some e) next) h).0 refl;
  ascends = λ v e next one h.
      offsets_ascend e next (extent_fits v e (and_parts (is_extent v e) (follows_offset None e) one).0).1
      (and_parts (is_extent v next) (follows_offset (Some e) next) h).1;
}

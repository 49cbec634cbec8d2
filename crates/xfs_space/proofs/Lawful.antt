-- What lawful records of a tree keep each by itself.
use Rattle.std.proofs.Common.{◌≡◌, ℕ, Bool, true, ◌+◌, ◌<◌, ◌≤◌, ◌-◌, ◌^◌, ◌&&◌, List, [], ◌∷◌, Option, Some, None, nat_le, nat_lt, arith}
use Rattle.std.specs.List.{All}
use Rattle.std.proofs.lemmas.Bool.{and_parts, leb-true, ltb-true}
use Rattle.std.proofs.lemmas.List.Elements.{All-nil, All-cons}
use Rattle.xfs_word.specs.declared.extents.Extent.{Extent}
use Rattle.xfs_geom.specs.Groups.{group_of_address, ag_block_of_address}
use Rattle.xfs_geom.specs.Conversions.{group_length}
use Rattle.xfs_geom.specs.Volumes.{Volume}
use Rattle.xfs_kinds.specs.xfs_tree.Shape.{Shape}
use Rattle.xfs_kinds.specs.xfs_tree.Rules.{are_lawful}
use Rattle.xfs_kinds.specs.FileTrees.{bmbt_shape, is_extent, fits_extent, follows_offset}
use Rattle.xfs_space.specs.Private.Places.{IsPlacedExtent}

-- each of lawful records passes what its law alone asks
pub each_lawful : {R K : Type 0} (s : Shape R K) (v : Volume) (P : R → Type 0) → ((before : Option R) (r : R) → s.lawful v before r ≡ true → P r)
    → (before : Option R) (rs : List R) → are_lawful s v before rs ≡ true → All P rs
each_lawful s v P says before [] h = All-nil P
each_lawful s v P says before (r ∷ rs) h =
    let parts = and_parts (s.lawful v before r) (are_lawful s v (Some r) rs) h in
    All-cons P r rs (says before r parts.0) (each_lawful s v P says (Some r) rs parts.1)

-- what the tests of an extent say
record Tests (group count agcount block size offset : ℕ) : Type 0 where
  some : 1 ≤ count
  there : group < agcount
  inside : block + count ≤ size
  offsets : offset + count < 2 ^ 54

tests : (fits : Bool) (group count agcount block size offset : ℕ)
    → (fits && nat_le 1 count && nat_le (offset + count) (2 ^ 54 - 1) && (nat_lt group agcount && nat_le (block + count) size)) ≡ true → Tests group count agcount block size offset
tests fits group count agcount block size offset h =
    let a = and_parts (fits && nat_le 1 count && nat_le (offset + count) (2 ^ 54 - 1)) (nat_lt group agcount && nat_le (block + count) size) h in
    let b = and_parts (fits && nat_le 1 count) (nat_le (offset + count) (2 ^ 54 - 1)) a.0 in
    let c = and_parts fits (nat_le 1 count) b.0 in
    let d = and_parts (nat_lt group agcount) (nat_le (block + count) size) a.1 in
    let offsets : offset + count ≤ 2 ^ 54 - 1 = leb-true (offset + count) (2 ^ 54 - 1) b.1 in
    record {
      some = leb-true 1 count c.1;
      there = ltb-true group agcount d.0;
      inside = leb-true (block + count) size d.1;
      offsets = omega (arith, offsets);
    }

placed_extent : (v : Volume) (before : Option Extent) (e : Extent) → (is_extent v e && follows_offset before e) ≡ true → IsPlacedExtent v e
placed_extent v before e h =
    let extent = (and_parts (is_extent v e) (follows_offset before e) h).0 in
    let group = group_of_address v.agblklog e.start in
    let t = tests (fits_extent e) group e.count v.agcount (ag_block_of_address v.agblklog e.start) (group_length v group) e.offset extent in
    record { some = t.some; group = t.there; inside = t.inside; offsets = t.offsets }

pub placed : (v : Volume) (ino : ℕ) (es : List Extent) → are_lawful (bmbt_shape ino) v None es ≡ true → All (IsPlacedExtent v) es
placed v ino es h = each_lawful (bmbt_shape ino) v (IsPlacedExtent v) (placed_extent v) None es h

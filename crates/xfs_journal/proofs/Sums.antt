-- What an extent of a volume adds up to.
use Rattle.std.proofs.Common.{◌≡◌, ℕ, ◌+◌, ◌-◌, ◌*◌, ◌/◌, ◌%◌, ◌^◌, ◌≤◌, ◌<◌, ◌&&◌, nat_le, nat_lt, true, mul-le-mul_left, arith}
use Rattle.std.proofs.lemmas.Bool.{and_parts, leb-true, ltb-true}
use Rattle.xfs_word.specs.declared.extents.Extent.{Extent}
use Rattle.xfs_geom.specs.Groups.{block_of_address}
use Rattle.xfs_geom.specs.Volumes.{Volume, volume_of}
use Rattle.xfs_geom.specs.declared.geometry.Geometry.{Geometry}
use Rattle.xfs_kinds.specs.FileTrees.{fits_extent, is_extent}
use Rattle.xfs_kinds.specs.Groups.{lies_in_one_group}

-- a group has no more blocks than its addresses tell apart
pub below : (start size blocks : ℕ) → 1 ≤ size → blocks ≤ size → start / size * blocks + start % size ≤ start
below start size blocks some few =
    let most : start / size * blocks ≤ start / size * size = mul-le-mul_left (start / size) few in
    let whole : size * (start / size) + start % size ≡ start = omega arith in
    omega (arith, most, whole)

-- how large its numbers are
record IsSmall (e : Extent) : Type 0 where
  ends : e.offset + e.count ≤ 2 ^ 54 - 1
  start : e.start < 2 ^ 52
  count : e.count < 2 ^ 21

small : (v : Volume) (e : Extent) → is_extent v e ≡ true → IsSmall e
small v e is =
    let placed = and_parts (fits_extent e && nat_le 1 e.count && nat_le (e.offset + e.count) (2 ^ 54 - 1)) (lies_in_one_group v e.start e.count) is in
    let ended = and_parts (fits_extent e && nat_le 1 e.count) (nat_le (e.offset + e.count) (2 ^ 54 - 1)) placed.0 in
    let some = and_parts (fits_extent e) (nat_le 1 e.count) ended.0 in
    let fits = and_parts (nat_lt e.offset (2 ^ 54) && nat_lt e.start (2 ^ 52)) (nat_lt e.count (2 ^ 21)) some.0 in
    let begins = and_parts (nat_lt e.offset (2 ^ 54)) (nat_lt e.start (2 ^ 52)) fits.0 in
    record {
      ends = leb-true (e.offset + e.count) (2 ^ 54 - 1) ended.1;
      start = ltb-true e.start (2 ^ 52) begins.1;
      count = ltb-true e.count (2 ^ 21) fits.1;
    }

pub blocks_end : (g : Geometry) (e : Extent) → is_extent (volume_of g) e ≡ true → block_of_address g.agblocks g.agblklog e.start + e.count < 2 ^ 64
blocks_end g e is =
    let few = small (volume_of g) e is in
    let large = g.shape.groups.large in
    let enough = g.shape.addresses.enough in
    let first : block_of_address g.agblocks g.agblklog e.start ≤ e.start = below e.start (2 ^ g.agblklog) g.agblocks (omega (arith, large, enough)) enough in
    let start = few.start in
    let count = few.count in
    omega (arith, first, start, count)

pub offsets_end : (g : Geometry) (e : Extent) → is_extent (volume_of g) e ≡ true → e.offset + e.count < 2 ^ 64
offsets_end g e is = let ends = (small (volume_of g) e is).ends in omega (arith, ends)

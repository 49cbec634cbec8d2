-- The blocks of an extent lie in the volume.
use Rattle.std.proofs.Common.{◌≡◌, ℕ, ◌+◌, ◌-◌, ◌*◌, ◌^◌, ◌<◌, ◌≤◌, Bool, true, false, ◌==◌, ◌&&◌, nat_le, nat_lt, if◌then◌else◌, refl, arith}
use Rattle.std.proofs.lemmas.Bool.{and_parts, eqb-false, leb-true, ltb-true}
use Rattle.std.proofs.Math.Nat.{mul-le-mul_right}
use Rattle.xfs_word.specs.declared.extents.Extent.{Extent}
use Rattle.xfs_geom.specs.Conversions.{group_length}
use Rattle.xfs_geom.specs.Groups.{ag_block_of_address, block_of_address, blocks_of_group, group_of_address}
use Rattle.xfs_geom.specs.Volumes.{volume_of}
use Rattle.xfs_geom.specs.declared.geometry.Geometry.{Geometry}
use Rattle.xfs_kinds.specs.FileTrees.{fits_extent, is_extent}
use Rattle.xfs_kinds.specs.Groups.{lies_in_one_group}

-- what lies in a group lies in the volume
in_group : (d w n g b k : ℕ) → (n - 1) * w + 64 ≤ d → g < n → b + k ≤ blocks_of_group d w n g → g * w + b + k ≤ d
in_group d w n g b k last few fits = by_case (g + 1 == n) refl fits
  where
    by_case : (r : Bool) → (g + 1 == n) ≡ r → b + k ≤ (if r then d - g * w else w) → g * w + b + k ≤ d
    by_case true e fits =
        let most : g * w ≤ (n - 1) * w = mul-le-mul_right w (omega arith) in
        omega arith
    by_case false e fits =
        let other = eqb-false (g + 1) n e in
        let most : (g + 1) * w ≤ (n - 1) * w = mul-le-mul_right w (omega arith) in
        omega arith

-- an extent lies in the volume, and ends at a block that the file can have
pub record IsInside (g : Geometry) (e : Extent) : Type 0 where
  pub ends : e.offset + e.count < 2 ^ 54
  pub inside : block_of_address g.agblocks g.agblklog e.start + e.count ≤ g.dblocks

pub is_inside : (g : Geometry) (e : Extent) → is_extent (volume_of g) e ≡ true → IsInside g e
is_inside g e lawful =
    let v = volume_of g in
    let group = group_of_address g.agblklog e.start in
    let block = ag_block_of_address g.agblklog e.start in
    let parts = and_parts (fits_extent e && nat_le 1 e.count && nat_le (e.offset + e.count) (2 ^ 54 - 1)) (lies_in_one_group v e.start e.count) lawful in
    let numbers = and_parts (fits_extent e && nat_le 1 e.count) (nat_le (e.offset + e.count) (2 ^ 54 - 1)) parts.0 in
    let end : e.offset + e.count ≤ 2 ^ 54 - 1 = leb-true (e.offset + e.count) (2 ^ 54 - 1) numbers.1 in
    let places = and_parts (nat_lt group g.agcount) (nat_le (block + e.count) (group_length v group)) parts.1 in
    let few : group < g.agcount = ltb-true group g.agcount places.0 in
    let fits : block + e.count ≤ group_length v group = leb-true (block + e.count) (group_length v group) places.1 in
    record {
      ends = omega (arith, end);
      inside = in_group g.dblocks g.agblocks g.agcount group block e.count g.shape.groups.last few fits;
    }

-- its group is one of the volume
pub group_few : (g : Geometry) (e : Extent) → is_extent (volume_of g) e ≡ true → group_of_address g.agblklog e.start < g.agcount
group_few g e lawful =
    let v = volume_of g in
    let group = group_of_address g.agblklog e.start in
    let block = ag_block_of_address g.agblklog e.start in
    let parts = and_parts (fits_extent e && nat_le 1 e.count && nat_le (e.offset + e.count) (2 ^ 54 - 1)) (lies_in_one_group v e.start e.count) lawful in
    let places = and_parts (nat_lt group g.agcount) (nat_le (block + e.count) (group_length v group)) parts.1 in
    ltb-true group g.agcount places.0

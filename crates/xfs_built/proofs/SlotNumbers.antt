-- The log sequence number in a slot, and the slot of the inode of a slot.
use Rattle.std.proofs.Common.{◌≡◌, ℕ, ◌+◌, ◌*◌, ◌/◌, ◌%◌, ◌<◌, List, Some, ap, ◌∙◌, arith}
use Rattle.xfs_word.specs.Field.{field_of}
use Rattle.xfs_geom.specs.Conversions.{address_of, block_at, inode_of, slot_at, with_slot}
use Rattle.xfs_geom.specs.Volumes.{Volume, volume_of}
use Rattle.xfs_geom.specs.declared.geometry.Geometry.{Geometry}
use Rattle.xfs_geom.proofs.Addresses.{block_back}

-- the number in a slot
abbrev pub slot_lsn : List ℕ → ℕ
slot_lsn slot = field_of slot 112 8

-- the slot of the inode of a slot is that slot
pub slot_back : (g : Geometry) (block k : ℕ) → block < g.dblocks → k < 8 → slot_at (volume_of g) (inode_of (volume_of g) block k) ≡ Some (block, k)
unfolding slot_at inode_of
slot_back g block k inside few =
    let v : Volume = volume_of g in
    let whole : (address_of v block * 8 + k) / 8 ≡ address_of v block = omega (arith, few) in
    let rest : (address_of v block * 8 + k) % 8 ≡ k = omega (arith, few) in
    (λ i. with_slot (rest i) (block_at v (whole i)))
    ∙ ap (with_slot k) (block_back v block g.shape.groups.large g.shape.groups.covered g.shape.addresses.enough inside)

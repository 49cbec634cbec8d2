-- Runs of blocks inside an allocation group (chapter "Allocation Groups").
use Rattle.std.specs.Prelude.{ℕ, Bool, ◌+◌, ◌&&◌, nat_le, nat_lt}
use Rattle.xfs_geom.specs.Conversions.{group_length}
use Rattle.xfs_geom.specs.Groups.{group_of_address, ag_block_of_address}
use Rattle.xfs_geom.specs.Volumes.{Volume}

-- the group is one of the volume, and the AG blocks from start on lie inside it
abbrev pub lies_in_group : Volume → ℕ → ℕ → ℕ → Bool
lies_in_group v ag start count = nat_lt ag v.agcount && nat_le (start + count) (group_length v ag)

-- the blocks from an address on lie inside the group of the address
abbrev pub lies_in_one_group : Volume → ℕ → ℕ → Bool
lies_in_one_group v address count = lies_in_group v (group_of_address v.agblklog address) (ag_block_of_address v.agblklog address) count

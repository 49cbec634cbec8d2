-- Blocks, addresses and inode numbers of a volume (chapters "Allocation Groups" and "AG Inode Management").
use Rattle.std.specs.Prelude.{ℕ, Bool, ◌+◌, ◌*◌, ◌/◌, ◌%◌, ◌^◌, ◌==◌, ◌&&◌, ◌||◌, nat_le, nat_lt, if◌then◌else◌, Option, Some, None}
use Rattle.xfs_geom.specs.Groups.{blocks_of_group, group_of_address, ag_block_of_address, block_of_address}
use Rattle.xfs_geom.specs.Volumes.{Volume}

-- the blocks of a group of the volume
abbrev pub group_length : Volume → ℕ → ℕ
group_length v group = blocks_of_group v.dblocks v.agblocks v.agcount group

-- the block is the first of a group, where its headers stand, or a block of the log
abbrev pub is_fixed : Volume → ℕ → Bool
is_fixed v block = block % v.agblocks == 0 || (nat_le v.log block && nat_lt block (v.log + v.logblocks))

-- the address of a block: its group above agblklog bits of its AG block
unfoldable pub address_of : Volume → ℕ → ℕ
address_of v block = block / v.agblocks * 2 ^ v.agblklog + block % v.agblocks

-- the group of the address and its AG block in that group are there
abbrev pub is_address : Volume → ℕ → Bool
is_address v address =
    nat_lt (group_of_address v.agblklog address) v.agcount
    && nat_lt (ag_block_of_address v.agblklog address) (group_length v (group_of_address v.agblklog address))

-- the block at an address, where it is there
unfoldable pub block_at : Volume → ℕ → Option ℕ
block_at v address = if is_address v address then Some (block_of_address v.agblocks v.agblklog address) else None

-- the number of an inode: the address of its block, and one of eight slots
unfoldable pub inode_of : Volume → ℕ → ℕ → ℕ
inode_of v block slot = address_of v block * 8 + slot

-- the block with the slot
abbrev pub with_slot : ℕ → Option ℕ → Option (ℕ × ℕ)
with_slot slot (Some block) = Some (block, slot)
with_slot slot None = None

-- the block and the slot of an inode, where the block is there
unfoldable pub slot_at : Volume → ℕ → Option (ℕ × ℕ)
slot_at v ino = with_slot (ino % 8) (block_at v (ino / 8))

-- Allocation groups, block numbers and addresses (chapter "Allocation Groups").
use Rattle.std.specs.Prelude.{ℕ, ◌+◌, ◌-◌, ◌*◌, ◌/◌, ◌%◌, ◌^◌, ◌==◌, if◌then◌else◌}

-- the blocks of an allocation group: the last one has what is left of the volume
abbrev pub blocks_of_group : ℕ → ℕ → ℕ → ℕ → ℕ
blocks_of_group dblocks agblocks agcount group = if group + 1 == agcount then dblocks - group * agblocks else agblocks

-- an address has the group above agblklog bits of the AG block
abbrev pub group_of_address : ℕ → ℕ → ℕ
group_of_address agblklog address = address / 2 ^ agblklog

abbrev pub ag_block_of_address : ℕ → ℕ → ℕ
ag_block_of_address agblklog address = address % 2 ^ agblklog

-- the number of the block at an address, counted from the start of the image
abbrev pub block_of_address : ℕ → ℕ → ℕ → ℕ
block_of_address agblocks agblklog address = group_of_address agblklog address * agblocks + ag_block_of_address agblklog address

-- an inode number is its block's address and one of eight slots
abbrev pub address_of_inode : ℕ → ℕ
address_of_inode ino = ino / 8

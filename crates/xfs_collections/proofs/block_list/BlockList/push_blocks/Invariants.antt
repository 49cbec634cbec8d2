use Rattle.std.proofs.Common.{◌≡◌, ◌++◌, ◌/◌, length, take}
use Rattle.xfs_disk.specs.Memory.{blocks_of_bytes}
use Rattle.xfs_collections.proofs.block_list.BlockList.push_blocks.Given as goal

abbrev pub invariant-loop-i : goal.invariant-loop-i
invariant-loop-i l = record { all : l.self ≡ l.initial.self ++ take l.i (blocks_of_bytes (length l.bytes / 4096) l.bytes) }

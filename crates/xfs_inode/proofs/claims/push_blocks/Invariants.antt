use Rattle.std.proofs.Common.{◌≡◌, ◌++◌, map, drop}
use Rattle.xfs_inode.specs.Files.{range_of_block}
use Rattle.xfs_inode.proofs.claims.push_blocks.Given as goal

abbrev pub invariant-loop-block : goal.invariant-loop-block
invariant-loop-block l = l.runs.items ++ map range_of_block (drop l.block-index l.blocks) ≡ l.fn.runs.items ++ map range_of_block l.blocks

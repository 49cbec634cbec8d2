use Rattle.std.proofs.Common.{◌≡◌, ◌++◌, drop}
use Rattle.xfs_space.specs.Owners.{runs_of_blocks}
use Rattle.xfs_space.proofs.owners.push_blocks.Given as goal

abbrev pub invariant-loop-block : goal.invariant-loop-block
invariant-loop-block l = l.runs.items ++ runs_of_blocks l.owner l.offset (drop l.block-index l.blocks) ≡ l.fn.runs.items ++ runs_of_blocks l.owner l.offset l.blocks

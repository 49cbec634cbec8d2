use Rattle.std.proofs.Common.{◌≡◌, ◌++◌, ◌^◌, drop}
use Rattle.xfs_views.specs.xfs_space.Owners.{runs_of_blocks}
use Rattle.xfs_salvage.proofs.runs.push_blocks.Given as goal

abbrev pub invariant-loop-block : goal.invariant-loop-block
invariant-loop-block l = l.runs.items ++ runs_of_blocks l.ino (2 ^ 62) (drop l.block-index l.blocks) ≡ l.fn.runs.items ++ runs_of_blocks l.ino (2 ^ 62) l.blocks

use Rattle.std.proofs.Common.{◌≡◌, ◌++◌, drop}
use Rattle.xfs_render.specs.NewBlocks.{reaches_of}
use Rattle.xfs_render.proofs.new_blocks.reaches_of.Given as goal

abbrev pub invariant-loop-run : goal.invariant-loop-run
invariant-loop-run l = l.reaches.items ++ reaches_of l.far (drop l.run-index l.runs) ≡ reaches_of 0 l.runs

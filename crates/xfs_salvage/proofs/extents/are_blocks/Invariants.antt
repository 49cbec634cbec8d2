use Rattle.std.proofs.Common.{ℕ, ◌<◌, get_or}
use Rattle.xfs_salvage.proofs.extents.are_blocks.Given as goal

abbrev pub invariant-loop-block : goal.invariant-loop-block
invariant-loop-block l = (k d : ℕ) → k < l.block-index → get_or l.blocks k d < l.g.dblocks

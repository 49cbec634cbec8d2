use Rattle.std.proofs.Common.{◌≡◌, ◌+◌, drop}
use Rattle.xfs_inode.specs.Files.{extent_blocks}
use Rattle.xfs_inode.proofs.counts.left_behind.Given as goal

abbrev pub invariant-loop-extent : goal.invariant-loop-extent
invariant-loop-extent l = l.left + extent_blocks l.extents ≡ l.blocks + extent_blocks (drop l.extent-index l.extents)

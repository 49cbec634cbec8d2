use Rattle.std.proofs.Common.{◌≡◌, ℕ, ◌<◌, true}
use Rattle.xfs_geom.specs.Volumes.{volume_of}
use Rattle.xfs_kinds.specs.InodeTrees.{is_block_free_of_use}
use Rattle.xfs_kinds.proofs.chunks.are_free_of_use.Given as goal

abbrev pub invariant-loop-block : goal.invariant-loop-block
invariant-loop-block l = (k : ℕ) → k < l.block → is_block_free_of_use (volume_of l.g) l.holemask l.start k ≡ true

use Rattle.std.proofs.Common.{◌≡◌, drop}
use Rattle.xfs_geom.specs.Volumes.{volume_of}
use Rattle.xfs_inode.specs.Files.{are_blocks}
use Rattle.xfs_inode.proofs.claims.are_blocks.Given as goal

abbrev pub invariant-loop-block : goal.invariant-loop-block
invariant-loop-block l = are_blocks (volume_of l.g) (drop l.block-index l.blocks) ≡ are_blocks (volume_of l.g) l.blocks

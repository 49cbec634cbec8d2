use Rattle.std.proofs.Common.{◌≡◌}
use Rattle.xfs_geom.specs.Volumes.{volume_of}
use Rattle.xfs_salvage.specs.xfs_laws.Counting.{bits_below, count_below}
use Rattle.xfs_request.specs.Chunks.{is_idle}
use Rattle.xfs_request.proofs.chunks.counted_chunk.Given as goal

abbrev pub invariant-loop-inode : goal.invariant-loop-inode
invariant-loop-inode l = record {
  counted : l.freecount ≡ count_below (is_idle (volume_of l.g) l.kept l.ag l.startino l.holemask) l.inode;
  marked : l.free ≡ bits_below (is_idle (volume_of l.g) l.kept l.ag l.startino l.holemask) l.inode;
}

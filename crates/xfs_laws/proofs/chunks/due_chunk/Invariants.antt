use Rattle.std.proofs.Common.{◌≡◌}
use Rattle.xfs_geom.specs.Volumes.{volume_of}
use Rattle.xfs_laws.specs.Counting.{bits_below, count_below, is_unused}
use Rattle.xfs_laws.proofs.chunks.due_chunk.Given as goal

abbrev pub invariant-loop-inode : goal.invariant-loop-inode
invariant-loop-inode l = record {
  counted : l.freecount ≡ count_below (is_unused (volume_of l.g) l.files l.ag l.chunk) l.inode;
  marked : l.free ≡ bits_below (is_unused (volume_of l.g) l.files l.ag l.chunk) l.inode;
}

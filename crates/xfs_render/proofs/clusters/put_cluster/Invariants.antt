use Rattle.std.proofs.Common.{ℕ, ◌<◌}
use Rattle.xfs_geom.specs.Conversions.{inode_of}
use Rattle.xfs_geom.specs.Volumes.{volume_of}
use Rattle.xfs_render.specs.Clusters.{slot_in}
use Rattle.xfs_render.specs.Slots.{IsSlotDue}
use Rattle.xfs_render.proofs.clusters.put_cluster.Given as goal

abbrev pub invariant-loop-k : goal.invariant-loop-k
invariant-loop-k l = record {
  each : (k : ℕ) → k < l.k → IsSlotDue (volume_of l.g) l.stamp.generation l.slots (inode_of (volume_of l.g) l.number k) (slot_in l.old k) (slot_in l.block k);
}

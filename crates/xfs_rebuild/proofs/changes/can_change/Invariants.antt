use Rattle.std.proofs.Common.{◌≡◌, ℕ, ◌<◌, true}
use Rattle.xfs_geom.specs.Conversions.{inode_of}
use Rattle.xfs_geom.specs.Volumes.{volume_of}
use Rattle.xfs_render.specs.Clusters.{slot_in}
use Rattle.xfs_rebuild.specs.Changes.{can_change}
use Rattle.xfs_rebuild.proofs.changes.can_change.Given as goal

abbrev pub invariant-loop-k : goal.invariant-loop-k
invariant-loop-k l = (k : ℕ) → k < l.k → can_change (volume_of l.g) l.slots (inode_of (volume_of l.g) l.number k) (slot_in l.block k) ≡ true

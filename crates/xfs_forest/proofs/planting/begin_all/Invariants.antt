use Rattle.std.proofs.Common.{◌≡◌, [], ℕ, length}
use Rattle.xfs_disk.specs.Blocks.{Image}
use Rattle.xfs_geom.specs.Volumes.{Volume}
use Rattle.xfs_forest.specs.Forest.{IsForest}
use Rattle.xfs_forest.proofs.Forests.{AreBegun}
use Rattle.xfs_forest.proofs.planting.begin_all.Given as goal

abbrev pub invariant-loop-i : goal.invariant-loop-i
invariant-loop-i g l = record {
  ends : l.i-end ≡ length l.plants;
  forest : (end : ℕ) → IsForest l.i end l.trees.items [];
  grows : (v : Volume) (image : Image) → AreBegun g.K.Kind.shape v image l.i l.plants l.trees.items;
}

use Rattle.std.proofs.Common.{drop}
use Rattle.xfs_geom.specs.Volumes.{volume_of}
use Rattle.xfs_disk.specs.Blocks.{Image}
use Rattle.xfs_forest.specs.Forest.{spots_of, AreFound, AreGrowing, EachBoth, IsKept}
use Rattle.xfs_forest.proofs.joining.join_round.Given as goal

abbrev pub invariant-loop-i : goal.invariant-loop-i
invariant-loop-i g l = record {
  kept : EachBoth IsKept l.initial.trees l.trees;
  grows : (image : Image) → AreFound g.K.Kind.shape (volume_of l.g) image l.plants l.cells
      → AreGrowing g.K.Kind.shape (volume_of l.g) image l.plants l.initial.trees (spots_of l.cells)
      → AreGrowing g.K.Kind.shape (volume_of l.g) image l.plants l.trees (spots_of (drop l.i l.cells));
}

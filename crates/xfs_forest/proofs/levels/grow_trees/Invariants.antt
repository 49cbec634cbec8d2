use Rattle.std.proofs.Common.{◌≡◌, [], ◌+◌, ◌≤◌, length}
use Rattle.std.specs.Option.{ForSome}
use Rattle.xfs_geom.specs.Volumes.{volume_of}
use Rattle.xfs_disk.specs.Reads.{OnlyReads}
use Rattle.xfs_forest.specs.Forest.{AreGrowing, Each, IsForest, IsLow}
use Rattle.xfs_forest.proofs.levels.grow_trees.Given as goal

abbrev pub invariant-loop-level : goal.invariant-loop-level
invariant-loop-level g l = record {
  none : l.cells.items ≡ [];
  forest : IsForest (length l.plants) l.g.dblocks l.trees l.cells.items;
  low : Each (IsLow l.level) (length l.plants) l.trees;
  grows : ForSome (g.D.Disk.holds l.fn.disk) (λ image. AreGrowing g.K.Kind.shape (volume_of l.g) image l.plants l.fn.trees []
      → AreGrowing g.K.Kind.shape (volume_of l.g) image l.plants l.trees []);
  later : g.D.Disk.faults l.fn.disk ≤ g.D.Disk.faults l.disk;
  disk : OnlyReads g.D.Disk.size g.D.Disk.holds g.D.Disk.write_faults g.D.Disk.writes g.D.Disk.tells_stops g.D.Disk.moment g.D.Disk.may_leave g.D.Disk.left_since l.fn.disk l.disk;
  reads : g.D.Disk.reads l.disk + l.fn.steps ≤ g.D.Disk.reads l.fn.disk + l.steps;
}

abbrev pub decreases-loop-level : goal.decreases-loop-level
decreases-loop-level g l = l.level

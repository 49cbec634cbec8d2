use Rattle.std.proofs.Common.{◌≡◌, ◌+◌, ◌≤◌, length}
use Rattle.std.specs.Option.{ForSome}
use Rattle.xfs_geom.specs.Volumes.{volume_of}
use Rattle.xfs_disk.specs.Reads.{OnlyReads}
use Rattle.xfs_forest.specs.Forest.{spots_of, AreGrowing, Each, EachBoth, IsForest, IsOnward, IsThrough}
use Rattle.xfs_forest.proofs.sweeping.read_level.Given as goal

abbrev pub invariant-loop-t : goal.invariant-loop-t
invariant-loop-t g l = record {
  ends : l.t-end ≡ length l.plants;
  forest : IsForest (length l.plants) l.g.dblocks l.trees l.cells.items;
  onward : EachBoth IsOnward l.fn.trees l.trees;
  through : Each IsThrough l.t l.trees;
  grows : ForSome (g.D.Disk.holds l.fn.disk) (λ image. AreGrowing g.K.Kind.shape (volume_of l.g) image l.plants l.fn.trees (spots_of l.fn.cells.items)
      → AreGrowing g.K.Kind.shape (volume_of l.g) image l.plants l.trees (spots_of l.cells.items));
  later : g.D.Disk.faults l.fn.disk ≤ g.D.Disk.faults l.disk;
  disk : OnlyReads g.D.Disk.size g.D.Disk.holds g.D.Disk.write_faults g.D.Disk.writes g.D.Disk.tells_stops g.D.Disk.moment g.D.Disk.may_leave g.D.Disk.left_since l.fn.disk l.disk;
  reads : g.D.Disk.reads l.disk + l.fn.steps ≤ g.D.Disk.reads l.fn.disk + l.steps;
}

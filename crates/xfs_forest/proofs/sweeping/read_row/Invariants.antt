use Rattle.std.proofs.Common.{◌+◌, ◌≤◌, length, drop}
use Rattle.std.specs.Option.{ForSome}
use Rattle.xfs_geom.specs.Volumes.{volume_of}
use Rattle.xfs_disk.specs.Reads.{OnlyReads}
use Rattle.xfs_forest.specs.Forest.{room_of, spots_of, AreGrowing, EachBoth, IsForest, IsOnward}
use Rattle.xfs_forest.proofs.sweeping.read_row.Given as goal

abbrev pub invariant-taking : goal.invariant-taking
invariant-taking g l = record {
  forest : IsForest (length l.plants) l.g.dblocks l.trees l.cells.items;
  onward : EachBoth IsOnward l.fn.trees l.trees;
  grows : ForSome (g.D.Disk.holds l.fn.disk) (λ image. AreGrowing g.K.Kind.shape (volume_of l.g) image l.plants l.fn.trees (spots_of l.fn.cells.items)
      → AreGrowing g.K.Kind.shape (volume_of l.g) image l.plants l.trees (spots_of l.cells.items));
  later : g.D.Disk.faults l.fn.disk ≤ g.D.Disk.faults l.disk;
  disk : OnlyReads g.D.Disk.size g.D.Disk.holds g.D.Disk.write_faults g.D.Disk.writes g.D.Disk.tells_stops g.D.Disk.moment g.D.Disk.may_leave g.D.Disk.left_since l.fn.disk l.disk;
  reads : g.D.Disk.reads l.disk + l.fn.steps ≤ g.D.Disk.reads l.fn.disk + l.steps;
}

abbrev pub decreases-taking : goal.decreases-taking
decreases-taking g l = room_of (drop l.t l.trees)

use Rattle.std.proofs.Common.{◌+◌, ◌≤◌}
use Rattle.std.specs.Option.{ForSome}
use Rattle.xfs_geom.specs.Volumes.{volume_of}
use Rattle.xfs_tree.specs.Answers.{IsMet}
use Rattle.xfs_disk.specs.Reads.{OnlyReads}
use Rattle.xfs_tree.proofs.Descent.{IsRead}
use Rattle.xfs_tree.proofs.reading.read_levels.Given as goal

abbrev pub invariant-loop-depth : goal.invariant-loop-depth
invariant-loop-depth g l = record {
  met : IsMet l.met;
  read : ForSome (g.D.Disk.holds l.fn.disk) (λ image. IsRead (g.K.Kind.shape l.kind) (volume_of l.g) image l.fn.tops.items l.height l.depth l.row.items l.met.blocks.items);
  later : g.D.Disk.faults l.fn.disk ≤ g.D.Disk.faults l.disk;
  disk : OnlyReads g.D.Disk.size g.D.Disk.holds g.D.Disk.write_faults g.D.Disk.writes g.D.Disk.tells_stops g.D.Disk.moment g.D.Disk.may_leave g.D.Disk.left_since l.fn.disk l.disk;
  reads : g.D.Disk.reads l.disk + l.fn.steps ≤ g.D.Disk.reads l.fn.disk + l.steps;
}

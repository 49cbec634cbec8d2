use Rattle.std.proofs.Common.{◌≡◌, ◌+◌, ◌≤◌, true, false}
use Rattle.std.specs.Option.{ForSome}
use Rattle.xfs_geom.specs.Volumes.{volume_of}
use Rattle.xfs_disk.specs.Reads.{OnlyReads}
use Rattle.xfs_groups.specs.Answers.{are_bare}
use Rattle.xfs_groups.specs.Private.Chosen.{are_clear}
use Rattle.xfs_groups.proofs.recorded.are_clear.Given as goal

abbrev pub invariant-loop-k : goal.invariant-loop-k
invariant-loop-k g l = record {
  clear : ForSome (g.D.Disk.holds l.fn.disk) (λ image. (l.looks ≡ false → are_bare (volume_of l.g) image l.first l.k ≡ true) → are_clear (volume_of l.g) image l.first l.k ≡ true);
  later : g.D.Disk.faults l.fn.disk ≤ g.D.Disk.faults l.disk;
  disk : OnlyReads g.D.Disk.size g.D.Disk.holds g.D.Disk.write_faults g.D.Disk.writes g.D.Disk.tells_stops g.D.Disk.moment g.D.Disk.may_leave g.D.Disk.left_since l.fn.disk l.disk;
  reads : g.D.Disk.reads l.disk + l.fn.steps ≤ g.D.Disk.reads l.fn.disk + l.steps;
}

use Rattle.std.proofs.Common.{◌≤◌, ◌+◌}
use Rattle.xfs_disk.specs.Reads.{OnlyReads}
use Rattle.xfs_geom.specs.Polls.{HasPolled}
use Rattle.xfs_geom.proofs.election.elect_backup.Given as goal

abbrev pub invariant-loop-place : goal.invariant-loop-place
invariant-loop-place g l =
    record {
      polled : HasPolled (g.D.Disk.holds l.disk) l.size l.place l.poll;
      later : g.D.Disk.faults l.fn.disk ≤ g.D.Disk.faults l.disk;
      disk : OnlyReads g.D.Disk.size g.D.Disk.holds g.D.Disk.write_faults g.D.Disk.writes g.D.Disk.tells_stops g.D.Disk.moment g.D.Disk.may_leave g.D.Disk.left_since l.fn.disk l.disk;
      reads : g.D.Disk.reads l.disk + 1 ≤ g.D.Disk.reads l.fn.disk + l.place;
    }

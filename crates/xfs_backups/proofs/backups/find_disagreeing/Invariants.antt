use Rattle.std.proofs.Common.{◌≡◌, ◌-◌, ◌≤◌}
use Rattle.std.specs.Option.{ForSome}
use Rattle.xfs_disk.specs.Reads.{OnlyReads}
use Rattle.xfs_backups.specs.Backups.{first_disagreeing}
use Rattle.xfs_backups.proofs.backups.find_disagreeing.Given as goal

abbrev pub invariant-loop-group : goal.invariant-loop-group
invariant-loop-group g l =
    record {
      first : ForSome (g.D.Disk.holds l.fn.disk) (λ image.
          first_disagreeing l.primary image l.group (l.geometry.agcount - l.group)
          ≡ first_disagreeing l.primary image 1 (l.geometry.agcount - 1));
      later : g.D.Disk.faults l.fn.disk ≤ g.D.Disk.faults l.disk;
      disk : OnlyReads g.D.Disk.size g.D.Disk.holds g.D.Disk.write_faults g.D.Disk.writes g.D.Disk.tells_stops g.D.Disk.moment g.D.Disk.may_leave g.D.Disk.left_since l.fn.disk l.disk;
    }

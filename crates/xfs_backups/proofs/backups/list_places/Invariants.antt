use Rattle.std.proofs.Common.{◌≡◌, ℕ, ◌++◌, ◌-◌, ◌<◌, ◌≤◌, All}
use Rattle.std.specs.Option.{ForSome}
use Rattle.xfs_disk.specs.Reads.{OnlyReads}
use Rattle.xfs_backups.specs.Private.Rows.{disagreeing_places}
use Rattle.xfs_backups.proofs.backups.list_places.Given as goal

abbrev pub invariant-loop-group : goal.invariant-loop-group
invariant-loop-group g l =
    record {
      places : ForSome (g.D.Disk.holds l.fn.disk) (λ image.
          l.places.items ++ disagreeing_places l.primary image l.group (l.geometry.agcount - l.group)
          ≡ disagreeing_places l.primary image 1 (l.geometry.agcount - 1));
      inside : All (λ (place : ℕ). place < g.D.Disk.size l.fn.disk) l.places.items;
      later : g.D.Disk.faults l.fn.disk ≤ g.D.Disk.faults l.disk;
      disk : OnlyReads g.D.Disk.size g.D.Disk.holds g.D.Disk.write_faults g.D.Disk.writes g.D.Disk.tells_stops g.D.Disk.moment g.D.Disk.may_leave g.D.Disk.left_since l.fn.disk l.disk;
    }

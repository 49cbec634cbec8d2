use Rattle.std.proofs.Common.{◌≡◌, ◌≤◌, take, Some}
use Rattle.std.specs.Option.{ForSome}
use Rattle.xfs_disk.specs.Counts.{raised_times}
use Rattle.xfs_writing.specs.Stopped.{LeavesJust}
use Rattle.xfs_writing.specs.Writing.{written, writes_of_rows}
use Rattle.xfs_writing.proofs.Mixing.{LeavesMixed, MayBe}
use Rattle.xfs_writing.proofs.writing.write_each.Given as goal

abbrev pub invariant-loop-row : goal.invariant-loop-row
invariant-loop-row g l =
    record {
      told : ForSome (g.D.Disk.holds l.fn.disk) (λ image. g.D.Disk.holds l.disk ≡ Some (written (take l.row-index (writes_of_rows l.bank l.rows)) image));
      count : l.written ≡ l.row-index;
      counted : g.D.Disk.writes l.disk ≡ raised_times l.row-index (g.D.Disk.writes l.fn.disk);
      size : g.D.Disk.size l.disk ≡ g.D.Disk.size l.fn.disk;
      faults : g.D.Disk.faults l.disk ≡ g.D.Disk.faults l.fn.disk;
      reads : g.D.Disk.reads l.disk ≡ g.D.Disk.reads l.fn.disk;
      risen : g.D.Disk.write_faults l.fn.disk ≤ g.D.Disk.write_faults l.disk;
      tells : g.D.Disk.tells_stops l.fn.disk → g.D.Disk.tells_stops l.disk;
      later : g.D.Disk.tells_stops l.fn.disk → g.D.Disk.moment l.fn.disk ≤ g.D.Disk.moment l.disk;
      may : g.D.Disk.tells_stops l.fn.disk → ForSome (g.D.Disk.holds l.fn.disk) (λ image. LeavesJust (g.D.Disk.may_leave l.fn.disk) image
          → MayBe (writes_of_rows l.bank l.rows) image (g.D.Disk.may_leave l.disk));
      past : g.D.Disk.tells_stops l.fn.disk → ForSome (g.D.Disk.holds l.fn.disk) (λ image. LeavesJust (g.D.Disk.may_leave l.fn.disk) image
          → LeavesMixed (writes_of_rows l.bank l.rows) image (g.D.Disk.moment l.fn.disk) (g.D.Disk.left_since l.fn.disk) (g.D.Disk.left_since l.disk));
    }

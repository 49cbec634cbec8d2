use Rattle.std.proofs.Common.{◌≡◌, ◌+◌, ◌-◌, ◌++◌, List, ℕ, drop, length, take, Some}
use Rattle.xfs_disk.specs.Blocks.{Image}
use Rattle.xfs_geom.specs.Volumes.{volume_of}
use Rattle.xfs_commands.specs.Commands.{session_of, IsWithin}
use Rattle.xfs_shell.specs.Ends.{HasCounts}
use Rattle.xfs_shell.specs.Running.{may_write, shelled, until_quit}
use Rattle.xfs_shell.specs.Stops.{HasPassed}
use Rattle.xfs_shell.proofs.Ending.{IsAt}
use Rattle.xfs_shell.proofs.Stepping.{AreRun}
use Rattle.xfs_shell.proofs.running.run_lines.Given as goal

abbrev pub invariant-loop-finished : goal.invariant-loop-finished
invariant-loop-finished g l =
    record {
      at : (image : Image) → g.D.Disk.holds l.fn.disk ≡ Some image
          → IsAt (volume_of l.geometry) l.leave l.lines image l.finished (session_of l.cursor) (g.D.Disk.holds l.disk) (g.D.Disk.writes l.fn.disk) (g.D.Disk.writes l.disk);
      text : (image : Image) → g.D.Disk.holds l.fn.disk ≡ Some image → (before : List ℕ) → g.O.Sink.took l.fn.out ≡ Some before
          → g.O.Sink.took l.out ≡ Some (before ++ (shelled (volume_of l.geometry) l.leave (take l.finished l.lines) image).text);
      passed : (image : Image) → g.D.Disk.holds l.fn.disk ≡ Some image
          → HasPassed g.D.Disk.holds g.D.Disk.tells_stops g.D.Disk.moment g.D.Disk.may_leave g.D.Disk.left_since (volume_of l.geometry) l.leave l.lines image l.fn.disk l.disk;
      silent : l.finished ≡ 0 → g.O.Sink.took l.out ≡ g.O.Sink.took l.fn.out;
      appends : (before : List ℕ) → g.O.Sink.took l.fn.out ≡ Some before → (rest : List ℕ) × (g.O.Sink.took l.out ≡ Some (before ++ rest));
      within : IsWithin l.geometry.dblocks (session_of l.cursor);
      run :
          AreRun g.D.Disk.size g.D.Disk.holds g.D.Disk.reads g.D.Disk.writes g.D.Disk.write_faults g.D.Disk.tells_stops g.D.Disk.moment g.D.Disk.may_leave
          g.D.Disk.left_since (may_write l.leave) l.finished l.fn.disk l.disk;
      quits : l.finished + until_quit (drop l.finished l.lines) ≡ until_quit l.lines;
      counts :
          HasCounts (g.D.Disk.faults l.fn.disk) (g.D.Disk.faults l.disk) (g.D.Disk.write_faults l.fn.disk) (g.D.Disk.write_faults l.disk)
          (g.O.Sink.faults l.fn.out) (g.O.Sink.faults l.out);
    }

abbrev pub decreases-loop-finished : goal.decreases-loop-finished
decreases-loop-finished g l = length l.lines - l.finished

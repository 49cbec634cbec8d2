use Rattle.std.proofs.Common.{◌≡◌, length, map, take, drop, ◌++◌}
use Rattle.xfs_backups.specs.Backups.{with_super}
use Rattle.xfs_backups.proofs.backups.put_primary.Given as goal

abbrev pub invariant-loop-i : goal.invariant-loop-i
invariant-loop-i l =
    record {
      done : l.bank ≡ map (with_super l.primary) (take l.i l.fn.bank) ++ drop l.i l.fn.bank;
      count : length l.bank ≡ length l.fn.bank;
    }

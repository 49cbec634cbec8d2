use Rattle.std.proofs.Common.{◌≡◌, ◌+◌, ◌-◌, ◌++◌, map}
use Rattle.std.specs.List.{range_with_len}
use Rattle.xfs_changes.specs.Slots.{free_change}
use Rattle.xfs_changes.proofs.changes.push_others.Given as goal

abbrev pub invariant-loop-i : goal.invariant-loop-i
invariant-loop-i l =
    l.changes.items ++ map free_change (range_with_len (l.ino + 1 + l.i) (31 - l.i)) ≡ l.fn.changes.items ++ map free_change (range_with_len (l.ino + 1) 31)

use Rattle.std.proofs.Common.{◌≡◌, ◌++◌, drop}
use Rattle.xfs_changes.specs.Slots.{with_changes}
use Rattle.xfs_changes.proofs.slots.with_changes.Given as goal

abbrev pub invariant-loop-change : goal.invariant-loop-change
invariant-loop-change l =
    l.all.items ++ with_changes (drop l.change-index l.changes) l.rest ≡ with_changes l.changes l.slots

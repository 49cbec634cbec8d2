use Rattle.std.proofs.Common.{◌≡◌, ◌+◌, drop}
use Rattle.xfs_changes.specs.Slots.{slots_before}
use Rattle.xfs_changes.proofs.slots.slots_before.Given as goal

abbrev pub invariant-loop-index : goal.invariant-loop-index
invariant-loop-index l =
    l.index + slots_before l.change (drop l.index l.slots) ≡ slots_before l.change l.slots

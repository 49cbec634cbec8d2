use Rattle.std.proofs.Common.{◌≡◌, ◌≤◌, take}
use Rattle.std.specs.List.{count_by}
use Rattle.xfs_rename.specs.Renames.{stays_freed}
use Rattle.xfs_rename.proofs.planning.cleared_beside.Given as goal

abbrev pub invariant-loop-slot : goal.invariant-loop-slot
invariant-loop-slot l = record {
  few : l.count ≤ l.slot-index;
  told : l.count ≡ count_by (stays_freed l.lost) (take l.slot-index l.slots);
}

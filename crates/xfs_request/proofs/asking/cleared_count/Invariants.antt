use Rattle.std.proofs.Common.{◌≡◌, ◌≤◌, take}
use Rattle.std.specs.List.{count_by}
use Rattle.xfs_request.specs.Requests.{is_freed}
use Rattle.xfs_request.proofs.asking.cleared_count.Given as goal

abbrev pub invariant-loop-slot : goal.invariant-loop-slot
invariant-loop-slot l = record {
  few : l.count ≤ l.slot-index;
  told : l.count ≡ count_by is_freed (take l.slot-index l.slots);
}

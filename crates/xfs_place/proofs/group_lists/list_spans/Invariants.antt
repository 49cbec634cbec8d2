use Rattle.std.proofs.Common.{◌≡◌, map, take}
use Rattle.xfs_place.specs.Claims.{span_of_run}
use Rattle.xfs_place.proofs.group_lists.list_spans.Given as goal

abbrev pub invariant-loop-run : goal.invariant-loop-run
invariant-loop-run l = l.spans.items ≡ map span_of_run (take l.run-index l.owned)

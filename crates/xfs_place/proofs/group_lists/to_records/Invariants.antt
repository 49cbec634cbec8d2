use Rattle.std.proofs.Common.{◌≡◌, map, take}
use Rattle.xfs_place.specs.Placing.{run_of_record}
use Rattle.xfs_place.proofs.group_lists.to_records.Given as goal

abbrev pub invariant-loop-run : goal.invariant-loop-run
invariant-loop-run l = map run_of_record l.records.items ≡ take l.run-index l.runs

use Rattle.std.proofs.Common.{◌≡◌, map, take}
use Rattle.xfs_place.specs.Wanted.{run_in_group}
use Rattle.xfs_place.proofs.claims.list_group.Given as goal

abbrev pub invariant-loop-run : goal.invariant-loop-run
invariant-loop-run l = l.group.items ≡ map (run_in_group l.base) (take l.run-index l.part)

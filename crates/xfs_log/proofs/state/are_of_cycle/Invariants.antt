use Rattle.std.proofs.Common.{◌≡◌, drop}
use Rattle.std.specs.List.{list_all}
use Rattle.xfs_log.specs.Log.{is_of_cycle}
use Rattle.xfs_log.proofs.state.are_of_cycle.Given as goal

abbrev pub invariant-loop-sector : goal.invariant-loop-sector
invariant-loop-sector l = list_all (is_of_cycle l.cycle) (drop l.sector-index l.seen) ≡ list_all (is_of_cycle l.cycle) l.seen

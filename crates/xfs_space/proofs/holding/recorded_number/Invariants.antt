use Rattle.std.proofs.Common.{◌≡◌, drop, map}
use Rattle.xfs_kinds.specs.MergedRuns.{held_at}
use Rattle.xfs_space.specs.SpaceLaws.{recorded_run}
use Rattle.xfs_space.proofs.holding.recorded_number.Given as goal

abbrev pub invariant-loop-record : goal.invariant-loop-record
invariant-loop-record l = held_at (map (recorded_run l.base) (drop l.record-index l.records)) l.block ≡ held_at (map (recorded_run l.base) l.records) l.block

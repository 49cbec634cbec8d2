use Rattle.std.proofs.Common.{◌+◌, ◌-◌, drop, length, map}
use Rattle.xfs_space.specs.SpaceLaws.{recorded_run}
use Rattle.xfs_space.proofs.Sweep.{Swept}
use Rattle.xfs_space.proofs.differing.first_difference.Given as goal

abbrev pub invariant-loop-i : goal.invariant-loop-i
invariant-loop-i l = Swept (map (recorded_run l.base) l.records) l.runs (map (recorded_run l.base) (drop l.i l.records)) (drop l.j l.runs) l.at

abbrev pub decreases-loop-i : goal.decreases-loop-i
decreases-loop-i l = (length l.records - l.i) + (length l.runs - l.j)

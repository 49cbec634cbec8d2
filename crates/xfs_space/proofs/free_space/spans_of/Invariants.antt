use Rattle.std.proofs.Common.{◌≡◌, ◌++◌, drop, map}
use Rattle.xfs_space.specs.Sorted.{span_in}
use Rattle.xfs_space.proofs.free_space.spans_of.Given as goal

abbrev pub invariant-loop-run : goal.invariant-loop-run
invariant-loop-run l = l.spans.items ++ map (span_in l.base) (drop l.run-index l.runs) ≡ map (span_in l.base) l.runs

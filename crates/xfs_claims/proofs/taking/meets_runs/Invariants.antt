use Rattle.std.proofs.Common.{◌≡◌, ◌+◌, ◌≤◌, drop}
use Rattle.xfs_collections.specs.Blocks.{is_in}
use Rattle.xfs_claims.specs.Spans.{spans_of, meets_any}
use Rattle.xfs_claims.proofs.taking.meets_runs.Given as goal

abbrev pub invariant-loop-run : goal.invariant-loop-run
invariant-loop-run g l =
    (meets_any (is_in l.set) (spans_of (drop l.run-index l.runs)) ≡ meets_any (is_in l.set) (spans_of l.runs)) × (l.steps ≤ l.fn.steps + l.run-index)

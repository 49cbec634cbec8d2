use Rattle.std.proofs.Common.{◌+◌, ◌≤◌, drop}
use Rattle.xfs_collections.specs.Blocks.{is_in}
use Rattle.xfs_claims.specs.Spans.{spans_of}
use Rattle.xfs_claims.proofs.Gathered.{Taking}
use Rattle.xfs_claims.proofs.taking.take_runs.Given as goal

abbrev pub invariant-loop-run : goal.invariant-loop-run
invariant-loop-run g l =
    Taking (is_in l.fn.set) (is_in l.set) (spans_of l.runs) (spans_of (drop l.run-index l.runs)) × (l.steps ≤ l.fn.steps + l.run-index)

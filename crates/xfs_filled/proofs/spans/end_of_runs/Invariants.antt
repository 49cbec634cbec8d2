use Rattle.std.proofs.Common.{◌≡◌, ℕ, ◌≤◌, ◌<◌, get_or}
use Rattle.xfs_filled.specs.Spans.{no_run}
use Rattle.xfs_filled.proofs.spans.end_of_runs.Given as goal

abbrev pub invariant-loop-i : goal.invariant-loop-i
invariant-loop-i l = record {
  from : l.from ≤ l.i;
  same : (k : ℕ) → l.from ≤ k → k < l.i → (get_or l.runs k no_run).owner ≡ l.owner;
}

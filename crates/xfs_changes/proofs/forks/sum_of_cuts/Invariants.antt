use Rattle.std.proofs.Common.{◌≡◌, ◌≤◌, ◌+◌, ◌*◌, ◌^◌, drop}
use Rattle.xfs_changes.specs.Forks.{runs_in}
use Rattle.xfs_changes.proofs.forks.sum_of_cuts.Given as goal

abbrev pub invariant-loop-cut : goal.invariant-loop-cut
invariant-loop-cut l = record {
  left : l.count + runs_in (drop l.cut-index l.cuts) ≡ runs_in l.cuts;
  less : l.count ≤ l.cut-index * 2 ^ 64;
}

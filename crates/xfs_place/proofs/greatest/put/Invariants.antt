use Rattle.std.proofs.Common.{◌≡◌, ◌≢◌, ℕ, ◌+◌, ◌-◌, ◌^◌, ◌≤◌, ◌<◌}
use Rattle.xfs_place.specs.Greatest.{leaf_at}
use Rattle.xfs_place.proofs.Branches.{Mends}
use Rattle.xfs_place.proofs.greatest.put.Given as goal

abbrev pub invariant-loop-level : goal.invariant-loop-level
invariant-loop-level l = record {
  mends : Mends l.nodes l.leaves l.node;
  low : 2 ^ (l.depth - l._level) ≤ l.node;
  high : l.node < 2 ^ (l.depth - l._level + 1);
  set' : leaf_at l.nodes l.leaves l.k ≡ l.number;
  others : (j : ℕ) → j < l.leaves → j ≢ l.k → leaf_at l.nodes l.leaves j ≡ leaf_at l.fn.nodes l.leaves j;
}

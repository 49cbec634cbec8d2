use Rattle.std.proofs.Common.{◌≡◌, ℕ, ◌≤◌, ◌<◌, length, get_or}
use Rattle.xfs_place.specs.Greatest.{AreGreatest, leaf_at}
use Rattle.xfs_place.proofs.greatest.Greatest.new.Given as goal

abbrev pub invariant-loop-k : goal.invariant-loop-k
invariant-loop-k l = record {
  stands : AreGreatest l.all.nodes.items l.all.leaves l.all.depth;
  there : length l.numbers ≤ l.all.leaves;
  set' : (j : ℕ) → j < l.k → leaf_at l.all.nodes.items l.all.leaves j ≡ get_or l.numbers j 0;
  rest : (j : ℕ) → l.k ≤ j → j < l.all.leaves → leaf_at l.all.nodes.items l.all.leaves j ≡ 0;
}

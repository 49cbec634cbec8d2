use Rattle.std.proofs.Common.{◌≡◌, ℕ, ◌<◌, ◌≤◌, get_or}
use Rattle.xfs_forest.specs.Forest.{IsDescended}
use Rattle.xfs_forest.proofs.levels.descend_all.Given as goal

abbrev pub invariant-loop-i : goal.invariant-loop-i
invariant-loop-i g l = record {
  rest : (j : ℕ) (d : _) → l.i ≤ j → get_or l.trees j d ≡ get_or l.initial.trees j d;
  done : (j : ℕ) (d : _) → j < l.i → IsDescended (get_or l.initial.trees j d) (get_or l.trees j d);
}

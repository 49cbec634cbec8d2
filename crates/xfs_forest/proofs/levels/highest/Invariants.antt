use Rattle.std.proofs.Common.{◌≡◌, ℕ, ◌≤◌, length}
use Rattle.xfs_forest.specs.Forest.{Each, IsLow}
use Rattle.xfs_forest.proofs.levels.highest.Given as goal

abbrev pub invariant-loop-i : goal.invariant-loop-i
invariant-loop-i g l = record {
  ends : l.i-end ≡ length l.trees;
  all : Each (IsLow l.level) l.i l.trees;
  least : (n : ℕ) → Each (IsLow n) (length l.trees) l.trees → l.level ≤ n;
}

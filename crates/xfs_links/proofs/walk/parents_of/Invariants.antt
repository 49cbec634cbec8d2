use Rattle.std.proofs.Common.{◌≡◌, ℕ, ◌<◌, ◌≤◌, None, length, get_or, drop}
use Rattle.xfs_links.specs.Walk.{attached_parent}
use Rattle.xfs_links.proofs.walk.parents_of.Given as goal

abbrev pub invariant-loop-left : goal.invariant-loop-left
invariant-loop-left l = record {
  size : length l.parents.items ≡ l.count;
  low : l.left ≤ length l.turn;
  parents : (p : ℕ) → p < l.count → get_or l.parents.items p None ≡ attached_parent (drop l.left l.turn) p;
}

abbrev pub decreases-loop-left : goal.decreases-loop-left
decreases-loop-left l = l.left

use Rattle.std.proofs.Common.{◌≡◌, ◌≤◌, ◌∷◌, [], length, take, drop, ◌++◌}
use Rattle.xfs_dirdata.specs.Best.{missing, spans_in_order}
use Rattle.xfs_dirdata.proofs.best.bestfree.Given as goal

abbrev pub invariant-loop-left : goal.invariant-loop-left
invariant-loop-left l = record {
  inside : l.left ≤ length l.free;
  bests : l.bests ≡ take 3 (spans_in_order (drop l.left l.free ++ missing ∷ missing ∷ missing ∷ []));
}

abbrev pub decreases-loop-left : goal.decreases-loop-left
decreases-loop-left l = l.left

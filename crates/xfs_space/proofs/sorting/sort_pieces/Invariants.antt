use Rattle.std.proofs.Common.{◌≡◌, ◌-◌, length}
use Rattle.std.specs.Prelude.{IsPermutation}
use Rattle.xfs_space.proofs.sorting.sort_pieces.Given as goal

abbrev pub invariant-loop-at : goal.invariant-loop-at
invariant-loop-at l = record {
  same : length l.runs ≡ length l.fn.runs;
  moved : IsPermutation l.fn.runs l.runs;
}

abbrev pub decreases-loop-at : goal.decreases-loop-at
decreases-loop-at l = length l.fn.runs - l.at

use Rattle.std.proofs.Common.{◌≤◌, All}
use Rattle.xfs_volume_tests.proofs.place.pieces.lengths_of.Given as goal

abbrev pub invariant-loop-number : goal.invariant-loop-number
invariant-loop-number l = All (λ blocks. 1 ≤ blocks) l.lengths.items

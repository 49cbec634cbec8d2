use Rattle.xfs_rounds.specs.Judged.{AreListedBelow}
use Rattle.xfs_rounds.proofs.pieces.list_round.Given as goal

abbrev pub invariant-loop-at : goal.invariant-loop-at
invariant-loop-at l = AreListedBelow l.round l.at l.blocks.items

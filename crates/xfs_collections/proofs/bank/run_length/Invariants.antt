use Rattle.xfs_collections.specs.Bank.{AreNeighbours}
use Rattle.xfs_collections.proofs.bank.run_length.Given as goal

abbrev pub invariant-loop-n : goal.invariant-loop-n
invariant-loop-n l = record {
  run : AreNeighbours l.n l.places;
}

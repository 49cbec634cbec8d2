use Rattle.xfs_place.specs.Choice.{NoneOpen}
use Rattle.xfs_place.proofs.lowest.next_open.Given as goal

abbrev pub invariant-loop-block : goal.invariant-loop-block
invariant-loop-block l = NoneOpen l.uses l.from l.block

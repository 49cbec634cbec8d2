use Rattle.xfs_rounds.specs.Named.{ArePlantsOf}
use Rattle.xfs_rounds.proofs.trees.plants_of.Given as goal

abbrev pub invariant-loop-i : goal.invariant-loop-i
invariant-loop-i l = ArePlantsOf l.slots l.i l.plants.items

use Rattle.std.proofs.Common.{◌≡◌, take}
use Rattle.xfs_forest.specs.Forest.{cell_places}
use Rattle.xfs_forest.proofs.loading.places_of.Given as goal

abbrev pub invariant-loop-i : goal.invariant-loop-i
invariant-loop-i g l = l.places.items ≡ cell_places (take l.i l.cells)

use Rattle.std.proofs.Common.{◌≡◌, ◌++◌, List}
use Rattle.xfs_place.specs.Choice.{group_claimed}
use Rattle.xfs_place.specs.Placing.{tree_claims}
use Rattle.xfs_place.specs.declared.uses.Use.{Use}
use Rattle.xfs_place.proofs.owned.add_blocks.Given as goal

abbrev pub invariant-loop-k : goal.invariant-loop-k
invariant-loop-k l = (uses : List Use) → l.runs.items ≡ l.claims ++ tree_claims (group_claimed uses l.claims l.inner) l.space l.blocks l.k

use Rattle.std.proofs.Common.{◌≡◌, ◌++◌, drop}
use Rattle.xfs_space.specs.Owners.{tree_runs}
use Rattle.xfs_space.proofs.owned_groups.push_trees.Given as goal

abbrev pub invariant-loop-index : goal.invariant-loop-index
invariant-loop-index l = l.runs.items ++ tree_runs (drop l.index l.owners) (drop l.index l.trees) ≡ l.fn.runs.items ++ tree_runs l.owners l.trees

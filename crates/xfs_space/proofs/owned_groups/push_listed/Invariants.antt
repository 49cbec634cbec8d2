use Rattle.std.proofs.Common.{◌≡◌, ◌++◌, drop, map}
use Rattle.xfs_space.specs.Owners.{different, listed_run}
use Rattle.xfs_space.proofs.owned_groups.push_listed.Given as goal

abbrev pub invariant-loop-index : goal.invariant-loop-index
invariant-loop-index l = l.runs.items ++ map (listed_run l.base) (different (drop l.index l.ag_blocks)) ≡ l.fn.runs.items ++ map (listed_run l.base) (different l.ag_blocks)

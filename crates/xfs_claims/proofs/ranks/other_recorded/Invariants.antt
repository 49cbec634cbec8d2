use Rattle.std.proofs.Common.{◌≡◌, ◌++◌, drop, map}
use Rattle.std.specs.List.{filter}
use Rattle.xfs_claims.specs.Ranks.{first_block, is_other_recorded}
use Rattle.xfs_claims.proofs.ranks.other_recorded.Given as goal

abbrev pub invariant-loop-cluster : goal.invariant-loop-cluster
invariant-loop-cluster l =
    l.blocks.items ++ map first_block (filter (is_other_recorded l.root) (drop l.cluster-index l.clusters)) ≡ map first_block (filter (is_other_recorded l.root) l.clusters)

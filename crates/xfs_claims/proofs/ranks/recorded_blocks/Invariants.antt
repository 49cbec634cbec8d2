use Rattle.std.proofs.Common.{◌≡◌, ℕ, ◌||◌, drop}
use Rattle.xfs_disk.specs.Lists.{is_among}
use Rattle.xfs_claims.specs.Ranks.{is_recorded_cluster}
use Rattle.xfs_claims.proofs.ranks.recorded_blocks.Given as goal

abbrev pub invariant-loop-cluster : goal.invariant-loop-cluster
invariant-loop-cluster l = (b : ℕ) → (is_among l.blocks.keys b || is_recorded_cluster (drop l.cluster-index l.clusters) b) ≡ is_recorded_cluster l.clusters b

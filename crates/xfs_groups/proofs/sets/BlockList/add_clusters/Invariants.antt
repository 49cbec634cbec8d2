use Rattle.std.proofs.Common.{◌≡◌, ℕ, ◌||◌, take}
use Rattle.std.specs.List.{list_any}
use Rattle.xfs_disk.specs.Lists.{is_among}
use Rattle.xfs_image.specs.Claims.{is_of_cluster}
use Rattle.xfs_groups.proofs.sets.BlockList.add_clusters.Given as goal

abbrev pub invariant-loop-cluster : goal.invariant-loop-cluster
invariant-loop-cluster l = (q : ℕ) → is_among l.self q ≡ (is_among l.fn.self q || list_any (λ cluster. is_of_cluster cluster q) (take l.cluster-index l.clusters))

use Rattle.std.proofs.Common.{◌≡◌, ◌<◌, ◌^◌, take}
use Rattle.std.specs.List.{All, flat_map}
use Rattle.xfs_image.specs.Clusters.{clusters_in}
use Rattle.xfs_groups.proofs.named.chunk_clusters.Given as goal

abbrev pub invariant-loop-chunk : goal.invariant-loop-chunk
invariant-loop-chunk l = record {
  named : l.clusters.items ≡ flat_map (clusters_in l.base) (take l.chunk-index l.chunks);
  low : All (λ cluster. cluster < 2 ^ 32) l.clusters.items;
}

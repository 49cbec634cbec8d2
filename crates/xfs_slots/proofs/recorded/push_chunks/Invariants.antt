use Rattle.std.proofs.Common.{◌≡◌, ◌<◌, ◌^◌, ◌++◌, drop}
use Rattle.std.specs.List.{All, flat_map}
use Rattle.xfs_image.specs.Clusters.{clusters_in}
use Rattle.xfs_slots.proofs.recorded.push_chunks.Given as goal

abbrev pub invariant-loop-chunk : goal.invariant-loop-chunk
invariant-loop-chunk l = record {
  clusters : l.clusters.items ++ flat_map (clusters_in l.base) (drop l.chunk-index l.chunks) ≡ l.fn.clusters.items ++ flat_map (clusters_in l.base) l.chunks;
  low : All (λ cluster. cluster < 2 ^ 42) l.clusters.items;
}

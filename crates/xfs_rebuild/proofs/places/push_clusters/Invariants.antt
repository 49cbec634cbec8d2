use Rattle.std.proofs.Common.{◌≡◌, ◌<◌, ◌++◌, drop}
use Rattle.std.specs.List.{All}
use Rattle.xfs_geom.specs.Volumes.{volume_of}
use Rattle.xfs_rebuild.specs.Places.{wanted_blocks}
use Rattle.xfs_rebuild.proofs.places.push_clusters.Given as goal

abbrev pub invariant-loop-cluster : goal.invariant-loop-cluster
invariant-loop-cluster l = record {
  more : l.places.items ++ wanted_blocks (volume_of l.g) (drop l.cluster-index l.clusters) l.slots ≡ l.fn.places.items ++ wanted_blocks (volume_of l.g) l.clusters l.slots;
  low : All (λ place. place < l.g.dblocks) l.places.items;
}

use Rattle.std.proofs.Common.{◌≡◌, ◌++◌, drop}
use Rattle.std.specs.List.{All, flat_map}
use Rattle.xfs_image.specs.Lsns.{cluster_places}
use Rattle.xfs_journal.specs.Placed.{IsInBlock, listed}
use Rattle.xfs_journal.proofs.groups.push_cluster_places.Given as goal

abbrev pub invariant-loop-cluster : goal.invariant-loop-cluster
invariant-loop-cluster l = record {
  listed : listed l.places.items ++ flat_map cluster_places (drop l.cluster-index l.clusters) ≡ listed l.fn.places.items ++ flat_map cluster_places l.clusters;
  inside : All IsInBlock l.places.items;
}

use Rattle.std.proofs.Common.{◌≡◌, ◌++◌, drop}
use Rattle.std.specs.List.{flat_map}
use Rattle.xfs_geom.specs.Volumes.{volume_of}
use Rattle.xfs_request.specs.Slots.{cluster_slots}
use Rattle.xfs_request.proofs.slots.wanted_slots.Given as goal

abbrev pub invariant-loop-cluster : goal.invariant-loop-cluster
invariant-loop-cluster l =
    l.slots.items ++ flat_map (cluster_slots (volume_of l.basis.g.now) l.basis.stamp.now l.basis.kept.now l.basis.slots.now) (drop l.cluster-index l.clusters)
    ≡ flat_map (cluster_slots (volume_of l.basis.g.now) l.basis.stamp.now l.basis.kept.now l.basis.slots.now) l.clusters

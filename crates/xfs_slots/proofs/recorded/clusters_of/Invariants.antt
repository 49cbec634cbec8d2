use Rattle.std.proofs.Common.{◌≡◌, ◌<◌, ◌^◌, ◌++◌, drop}
use Rattle.std.specs.List.{All}
use Rattle.xfs_geom.specs.Volumes.{volume_of}
use Rattle.xfs_image.specs.Files.{clusters_from}
use Rattle.xfs_slots.proofs.recorded.clusters_of.Given as goal

abbrev pub invariant-loop-ag : goal.invariant-loop-ag
invariant-loop-ag l = record {
  clusters : l.clusters.items ++ clusters_from (volume_of l.g) l.ag (drop l.ag l.groups) ≡ clusters_from (volume_of l.g) 0 l.groups;
  low : All (λ cluster. cluster < 2 ^ 42) l.clusters.items;
}

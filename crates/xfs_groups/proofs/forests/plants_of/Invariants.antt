use Rattle.std.proofs.Common.{◌≡◌, map}
use Rattle.xfs_disk.specs.Blocks.{Image}
use Rattle.xfs_geom.specs.Volumes.{volume_of}
use Rattle.xfs_forest.specs.Forest.{reads_as}
use Rattle.xfs_groups.specs.Private.Forests.{grown_from}
use Rattle.xfs_groups.proofs.forests.plants_of.Given as goal

abbrev pub invariant-loop-ag : goal.invariant-loop-ag
invariant-loop-ag g l =
    (image : Image) → map (reads_as g.K.Kind.shape (volume_of l.g) image) l.plants.items
    ≡ grown_from g.K.Kind.shape g.K.GroupKind.kind_of (volume_of l.g) image g.K.GroupKind.root_of l.heads 0 l.ag

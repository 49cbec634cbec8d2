use Rattle.xfs_geom.specs.Volumes.{volume_of}
use Rattle.xfs_place.specs.Wanted.{ArePlaced}
use Rattle.xfs_place.specs.Windows.{IsWindow}
use Rattle.xfs_place.proofs.volume_placing.place_groups.Given as goal

abbrev pub invariant-loop-ag : goal.invariant-loop-ag
invariant-loop-ag l = record {
  stands : IsWindow (volume_of l.g) l.kept l.reserved l.window;
  placed' : ArePlaced (volume_of l.g) l.kept l.reserved l.inodes l.ag l.groups.items;
}

use Rattle.std.proofs.Common.{◌≡◌, ◌++◌, drop}
use Rattle.std.specs.List.{All}
use Rattle.xfs_geom.specs.Volumes.{volume_of}
use Rattle.xfs_image.specs.Lsns.{groups_places}
use Rattle.xfs_journal.specs.Placed.{IsInBlock, listed}
use Rattle.xfs_journal.proofs.groups.push_group_places.Given as goal

abbrev pub invariant-loop-ag : goal.invariant-loop-ag
invariant-loop-ag l = record {
  listed : listed l.places.items ++ groups_places (volume_of l.g) l.ag (drop l.ag l.groups) ≡ listed l.fn.places.items ++ groups_places (volume_of l.g) 0 l.groups;
  inside : All IsInBlock l.places.items;
}

use Rattle.std.proofs.Common.{◌≡◌, ◌++◌, drop}
use Rattle.std.specs.List.{All, flat_map}
use Rattle.xfs_geom.specs.Volumes.{volume_of}
use Rattle.xfs_image.specs.Lsns.{extent_places}
use Rattle.xfs_journal.specs.Placed.{byte_of, fork_places}
use Rattle.xfs_journal.specs.Placed.{IsInBlock, listed}
use Rattle.xfs_journal.proofs.extents.push_fork.Given as goal

abbrev pub invariant-loop-extent : goal.invariant-loop-extent
invariant-loop-extent l = record {
  listed : listed l.places.items ++ flat_map (extent_places (volume_of l.g) (byte_of l.owner)) (drop l.extent-index l.extents) ≡ listed l.fn.places.items ++ fork_places (volume_of l.g) l.owner l.extents;
  inside : All IsInBlock l.places.items;
}

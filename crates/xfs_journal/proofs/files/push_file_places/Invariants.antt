use Rattle.std.proofs.Common.{◌≡◌, ◌++◌, drop}
use Rattle.std.specs.List.{All, flat_map}
use Rattle.xfs_geom.specs.Volumes.{volume_of}
use Rattle.xfs_image.specs.Lsns.{file_places}
use Rattle.xfs_journal.specs.Placed.{IsInBlock, listed}
use Rattle.xfs_journal.proofs.files.push_file_places.Given as goal

abbrev pub invariant-loop-file : goal.invariant-loop-file
invariant-loop-file l = record {
  listed : listed l.places.items ++ flat_map (file_places (volume_of l.g)) (drop l.file-index l.files) ≡ listed l.fn.places.items ++ flat_map (file_places (volume_of l.g)) l.files;
  inside : All IsInBlock l.places.items;
}

use Rattle.std.proofs.Common.{◌≡◌, take}
use Rattle.std.specs.List.{All, flat_map}
use Rattle.xfs_geom.specs.Volumes.{volume_of}
use Rattle.xfs_word.specs.Extent.{IsPackable}
use Rattle.xfs_filled.specs.Forks.{extents_of_run}
use Rattle.xfs_filled.proofs.forks.list_extents.Given as goal

abbrev pub invariant-loop-run : goal.invariant-loop-run
invariant-loop-run l = record {
  value : l.extents.items ≡ flat_map (extents_of_run (volume_of l.g)) (take l.run-index l.runs);
  small : All IsPackable l.extents.items;
}

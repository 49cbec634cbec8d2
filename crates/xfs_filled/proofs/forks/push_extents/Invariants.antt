use Rattle.std.proofs.Common.{◌≡◌, ◌++◌, map}
use Rattle.std.specs.List.{All, range_with_len}
use Rattle.xfs_geom.specs.Volumes.{volume_of}
use Rattle.xfs_word.specs.Extent.{IsPackable}
use Rattle.xfs_filled.specs.Forks.{extent_of_piece}
use Rattle.xfs_filled.proofs.forks.push_extents.Given as goal

abbrev pub invariant-loop-i : goal.invariant-loop-i
invariant-loop-i l = record {
  value : l.extents.items ≡ l.initial.extents.items ++ map (extent_of_piece (volume_of l.g) l.run) (range_with_len 0 l.i);
  small : All IsPackable l.extents.items;
}

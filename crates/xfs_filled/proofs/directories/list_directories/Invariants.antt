use Rattle.std.proofs.Common.{◌≡◌, ℕ, ◌<◌, true, map}
use Rattle.std.specs.List.{All, range_with_len}
use Rattle.xfs_geom.specs.Volumes.{volume_of}
use Rattle.xfs_filled.specs.Directories.{HasDirectoryImage, IsSoundWhere, made_directory_at}
use Rattle.xfs_filled.specs.Entries.{entries_at, parent_of_place}
use Rattle.xfs_filled.specs.FileTrees.{is_directory_node}
use Rattle.xfs_filled.specs.Numbers.{number_of}
use Rattle.xfs_filled.proofs.directories.list_directories.Given as goal

abbrev pub invariant-loop-k : goal.invariant-loop-k
invariant-loop-k l = record {
  all : l.all.items ≡ map (made_directory_at (volume_of l.g) l.starts l.nodes) (range_with_len 0 l.k);
  sound : All IsSoundWhere l.all.items;
  images : (j : ℕ) → j < l.k → is_directory_node l.nodes j ≡ true
      → HasDirectoryImage (entries_at (volume_of l.g) l.starts l.nodes j) (number_of (volume_of l.g) l.starts j) (parent_of_place (volume_of l.g) l.starts l.nodes j);
}

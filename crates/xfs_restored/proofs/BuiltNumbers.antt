-- The blocks of directories that were built as they are wanted state no log sequence number.
use Rattle.std.proofs.Common.{◌≡◌, ◌^◌, ◌≤◌, List, map}
use Rattle.std.specs.List.{flat_map}
use Rattle.xfs_disk.specs.Blocks.{Image}
use Rattle.xfs_geom.specs.Volumes.{Volume}
use Rattle.xfs_geom.specs.declared.records.Run.{Run}
use Rattle.xfs_dirbuild.specs.Forms.{form_of}
use Rattle.xfs_image.specs.Lsns.{LsnPlace, dir_byte, extent_places, lsn_at}
use Rattle.xfs_naming.specs.Naming.{entries_in}
use Rattle.xfs_names.specs.Built.{CanBeBuilt, IsBuiltAsWanted, fork_room}
use Rattle.xfs_names.specs.Pairs.{parent_or_itself}
use Rattle.xfs_names.specs.declared.building.BuiltDirectory.{BuiltDirectory}
use Rattle.xfs_names.specs.declared.building.ForkRoom.{ForkRoom}
use Rattle.xfs_names.specs.declared.records.WantedNames.{WantedNames}
use Rattle.xfs_views.proofs.Members.{Member}
use Rattle.xfs_rename.specs.xfs_built.Directories.{HasOwnCounts, StandsIn}
use Rattle.xfs_rename.specs.xfs_built.Extents.{extent_of_run}
use Rattle.xfs_rename.proofs.xfs_built.BuiltNumbers.{built_zero}
use Rattle.xfs_rename.proofs.xfs_built.Sized.{own_are_few, own_writable}

module _ (v : Volume) (image : Image) (some : 1 ≤ v.agblocks) (enough : v.agblocks ≤ 2 ^ v.agblklog) where
  pub wanted_zero : (w : WantedNames) (rooms : List ForkRoom) (b : BuiltDirectory) (runs : List Run) → CanBeBuilt w → IsBuiltAsWanted w rooms b → HasOwnCounts b → StandsIn v image b runs
      → (place : LsnPlace) → Member place (flat_map (extent_places v dir_byte) (map (extent_of_run v) runs)) → (lsn_at image place).lsn ≡ 0
  wanted_zero w rooms b runs can is sized at place among =
      built_zero v image some enough (form_of (entries_in w.entries b.ino) (fork_room rooms b.ino)) (entries_in w.entries b.ino) (parent_or_itself w.parents b.ino) b runs is
      (own_writable w b.ino can) (own_are_few w b.ino can) sized at place among

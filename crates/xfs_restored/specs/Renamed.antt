-- The directories of a plan in which names change, as an image has them.
use Rattle.std.specs.Prelude.{◌≡◌, List, length}
use Rattle.xfs_disk.specs.Blocks.{Image}
use Rattle.xfs_geom.specs.Volumes.{volume_of}
use Rattle.xfs_geom.specs.declared.geometry.Geometry.{Geometry}
use Rattle.xfs_names.specs.Built.{CanBeBuilt}
use Rattle.xfs_names.specs.declared.building.BuiltDirectory.{BuiltDirectory}
use Rattle.xfs_names.specs.declared.records.WantedNames.{WantedNames}
use Rattle.xfs_place.specs.Objects.{ServeAsks, asks_of}
use Rattle.xfs_place.specs.declared.placed.Placed.{Placed}
use Rattle.xfs_render.specs.Objects.{HasObjects, object_blocks}
use Rattle.xfs_render.specs.declared.bytes.Bytes.{Bytes}
use Rattle.xfs_rename.specs.xfs_rebuild.declared.names_due.NamesDue.{NamesDue}
use Rattle.xfs_rename.specs.xfs_built.Asks.{blocks_of_built}
use Rattle.xfs_rename.specs.Renames.{AreBuilt, renamed_wanted}

-- the directories can be built of the names that are wanted, and were; the runs of their objects are those of their asks; and the image
-- has their blocks
pub record HoldsBuilt (g : Geometry) (n : NamesDue) (w : WantedNames) (built : List BuiltDirectory) (p : Placed) (b : Bytes) (image : Image) : Type 0 where
  pub names : AreBuilt g n w built
  pub can : CanBeBuilt w
  pub cuts : ServeAsks (asks_of (renamed_wanted g n w built).objects) p.cuts p.runs
  pub objects' : b.objects ≡ blocks_of_built built
  pub held : HasObjects (volume_of g) (object_blocks (renamed_wanted g n w built) p) b.objects (length (object_blocks (renamed_wanted g n w built) p)) image

-- A law about what names change in slots. The function does nothing; its contract is the law.
use Rattle.std.specs.Prelude.{◌<◌, ℕ, List}
use Rattle.xfs_disk.specs.Blocks.{Image, bytes_of_block}
use Rattle.xfs_disk.specs.declared.stamp.Stamp.{Stamp}
use Rattle.xfs_empty.specs.Planning.{StandsFor}
use Rattle.xfs_geom.specs.Volumes.{volume_of}
use Rattle.xfs_geom.specs.declared.geometry.Geometry.{Geometry}
use Rattle.xfs_names.specs.Built.{CanBeBuilt}
use Rattle.xfs_names.specs.declared.building.BuiltDirectory.{BuiltDirectory}
use Rattle.xfs_names.specs.declared.records.WantedNames.{WantedNames}
use Rattle.xfs_place.specs.Objects.{ServeAsks, asks_of}
use Rattle.xfs_place.specs.declared.placed.Placed.{Placed}
use Rattle.xfs_scan.specs.declared.evidence.Evidence.{Evidence}
use Rattle.xfs_mend.specs.xfs_rebuild.Changes.{CanChange}
use Rattle.xfs_mend.specs.xfs_rebuild.Rebuilds.{Ground}
use Rattle.xfs_mend.specs.xfs_rebuild.declared.names_due.NamesDue.{NamesDue}
use Rattle.xfs_mend.specs.xfs_rename.Renames.{AreBuilt, placed_forks, renamed_slots, renamed_wanted}
use Rattle.xfs_settled.specs.Gathered.{IsGathered}

-- What is wanted of slots once names are settled can be made of what stands there, in each block of the volume, whatever place the
-- directories found that are built anew.
abbrev pub SettledSlotsCanBeMade : Type 0
SettledSlotsCanBeMade = (g : Geometry) (s : Stamp) (image : Image) (e : Evidence) (on : Ground) (n : NamesDue) → IsGathered g s image e on n
    → (w : WantedNames) (built : List BuiltDirectory) (p : Placed) → AreBuilt g n w built → CanBeBuilt w → StandsFor (renamed_wanted g n w built) p
    → ServeAsks (asks_of (renamed_wanted g n w built).objects) p.cuts p.runs → (block : ℕ) → block < g.dblocks
    → CanChange (volume_of g) (renamed_slots g s n w (placed_forks g n w built p)) block (bytes_of_block image block)

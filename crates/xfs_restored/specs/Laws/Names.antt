-- A law about the names of a volume that was rebuilt. The function does nothing; its contract is the law.
use Rattle.std.specs.Prelude.{◌≡◌, ℕ, false, List}
use Rattle.xfs_disk.specs.Blocks.{Image}
use Rattle.xfs_disk.specs.declared.stamp.Stamp.{Stamp}
use Rattle.xfs_geom.specs.Volumes.{volume_of}
use Rattle.xfs_geom.specs.declared.geometry.Geometry.{Geometry}
use Rattle.xfs_naming.specs.Naming.{naming_laws}
use Rattle.xfs_volume.specs.Laws.{AreKept}
use Rattle.xfs_salvage.specs.declared.found.Salvaged.{Salvaged}
use Rattle.xfs_rename.specs.xfs_request.Slots.{wanted_slots}
use Rattle.xfs_rename.specs.xfs_request.declared.seen.SlotSeen.{SlotSeen}
use Rattle.xfs_rename.specs.xfs_rebuild.Names.{needs_names}
use Rattle.xfs_restored.specs.DueFiles.{rebuilt_dirs, rebuilt_files}
use Rattle.xfs_restored.specs.Kept.{HasKept}

-- Where no name has to change, the files that the volume then has, with their checksums and attributes, break no law of names.
abbrev pub RestoredNamesAreLawful : Type 0
RestoredNamesAreLawful = (g : Geometry) (s : Stamp) (image now : Image) (kept : Salvaged) (seen : List SlotSeen) → HasKept g s image now kept seen → (crc : ℕ → ℕ)
    → needs_names g.rootino kept (wanted_slots (volume_of g) s kept seen) ≡ false
    → AreKept (naming_laws g.rootino (rebuilt_files (volume_of g) s kept seen crc) kept.entries (rebuilt_dirs g.rootino kept))

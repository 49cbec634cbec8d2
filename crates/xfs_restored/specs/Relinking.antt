-- What a volume is due to say in which names were changed: its files, its entries and its directories.
use Rattle.std.specs.Prelude.{◌≡◌, ℕ, true, ◌==◌, ◌&&◌, if◌then◌else◌, List, [], ◌∷◌, map, filter, Option, Some, None}
use Rattle.std.specs.List.{flat_map}
use Rattle.xfs_word.specs.declared.extents.Extent.{Extent}
use Rattle.xfs_disk.specs.Blocks.{Image}
use Rattle.xfs_disk.specs.Lists.{is_among}
use Rattle.xfs_disk.specs.declared.stamp.Stamp.{Stamp}
use Rattle.xfs_geom.specs.Volumes.{Volume, volume_of}
use Rattle.xfs_geom.specs.declared.geometry.Geometry.{Geometry}
use Rattle.xfs_dirdata.specs.declared.records.EntryRec.{EntryRec}
use Rattle.xfs_volume.specs.declared.cores.Core.{Core}
use Rattle.xfs_volume.specs.declared.directories.DirRec.{DirRec}
use Rattle.xfs_volume.specs.declared.files.FileRec.{FileRec}
use Rattle.xfs_naming.specs.Naming.{entries_in, file_at}
use Rattle.xfs_rename.specs.xfs_scan.Evidence.{IsEvidence}
use Rattle.xfs_rename.specs.xfs_scan.declared.evidence.Evidence.{Evidence}
use Rattle.xfs_names.specs.declared.building.BuiltDirectory.{BuiltDirectory}
use Rattle.xfs_names.specs.declared.records.WantedNames.{WantedNames}
use Rattle.xfs_place.specs.declared.placed.Placed.{Placed}
use Rattle.xfs_rename.specs.xfs_request.Slots.{is_bare, own_blocks, state_at}
use Rattle.xfs_rename.specs.xfs_request.declared.seen.SlotSeen.{SlotSeen}
use Rattle.xfs_rename.specs.xfs_rebuild.Names.{new_file}
use Rattle.xfs_rename.specs.xfs_rebuild.Rebuilds.{AreNamesDue, Ground, IsFound, IsGround, names_change}
use Rattle.xfs_rename.specs.xfs_rebuild.declared.names_due.NamesDue.{NamesDue}
use Rattle.xfs_rename.specs.xfs_built.Extents.{extent_of_run}
use Rattle.xfs_rename.specs.Lost.{lost_due}
use Rattle.xfs_rename.specs.xfs_built.Asks.{stands_in_blocks}
use Rattle.xfs_rename.specs.Renames.{IsRenamed, old_files}
use Rattle.xfs_rename.specs.xfs_changes.Slots.{lost_core}
use Rattle.xfs_rename.specs.xfs_changes.declared.lost_found.Lost.{Lost}
use Rattle.xfs_rename.specs.declared.planning.Renamed.{Renamed}
use Rattle.xfs_rename.specs.xfs_built.Directories.{BuiltRuns, with_runs}
use Rattle.xfs_restored.specs.RunForks.{fork_of_runs}
use Rattle.xfs_restored.specs.Reading.{forked_core, forked_file}
use Rattle.xfs_restored.specs.Rewriting.{IsRewritten}
use Rattle.xfs_restored.specs.DueFiles.{due_core, linked_core, new_core, stated_crc}

-- A rebuild in which names change was written: round what the evidence of an image gives it to go by, a name has to change, and the
-- image now has what was to be written.
pub record IsRelinked (g : Geometry) (sector : List ℕ) (s : Stamp) (image now : Image) (e : Evidence) (n : NamesDue) (r : Renamed) : Type 0 where
  pub evidence : IsEvidence g image e
  pub on : Ground
  pub ground : IsGround (volume_of g) e on
  pub change : names_change g s on ≡ true
  pub due : AreNamesDue g s on n
  pub found : IsFound (volume_of g) on.kept
  pub is : IsRenamed g sector s image n r
  pub new : IsRewritten g r.rebuilt image now

-- the first of some directories that were built, with a number
abbrev pub first_built : List BuiltRuns → Option BuiltRuns
first_built [] = None
first_built (d ∷ ds) = Some d

abbrev pub built_at : List BuiltRuns → ℕ → Option BuiltRuns
built_at built ino = first_built (filter (λ (d : BuiltRuns). d.directory.ino == ino) built)

-- the core of a file that is made anew: lost+found, the root, or a system inode
abbrev pub core_anew : Volume → Stamp → Lost → ℕ → Core
core_anew v s l ino = if l.made && ino == l.new then lost_core v s ino else new_core v s ino

-- a file by its number and its links, and by the checksum of its slot, but for its data where that is built anew: one that is kept, without
-- attributes where these do not read, or one that is made anew
abbrev pub file_with_links : Volume → Stamp → Lost → List SlotSeen → (ℕ → ℕ) → ℕ × ℕ → Option FileRec → FileRec
file_with_links v s l seen crc p None = new_file p.0 (linked_core (core_anew v s l p.0) p.1 (crc p.0))
file_with_links v s l seen crc p (Some f) = record f { core = due_core (is_bare (state_at seen f.ino)) (own_blocks f) p.1 (crc f.ino) f.core }

-- the same with the data that was built for it, in its runs or in short form
abbrev pub extents_built : Volume → BuiltRuns → List Extent
extents_built v d = if stands_in_blocks d.directory then map (extent_of_run v) d.runs else []

abbrev pub with_built : Volume → List FileRec → (ℕ → ℕ) → FileRec → Option BuiltRuns → FileRec
with_built v old crc f None = f
with_built v old crc f (Some d) = forked_file f (forked_core f.core (fork_of_runs v old d) (crc f.ino)) (extents_built v d)

-- the files by number, the entries of each directory as they are wanted or, where it is not built anew, as they were found, and the
-- directories, each whole, with its parent
module _ (g : Geometry) (s : Stamp) (now : Image) (on : Ground) (n : NamesDue) (w : WantedNames) (built : List BuiltDirectory) (p : Placed) where
  abbrev pub built_of : List BuiltRuns
  built_of = with_runs built p.cuts p.runs

  abbrev pub file_due : ℕ × ℕ → FileRec
  file_due pair =
      with_built (volume_of g) (old_files n w) (stated_crc (volume_of g) now)
      (file_with_links (volume_of g) s (lost_due g n) on.seen (stated_crc (volume_of g) now) pair (file_at on.kept.files pair.0)) (built_at built_of pair.0)

  unfoldable pub renamed_files : List FileRec
  renamed_files = map file_due w.links

module _ (n : NamesDue) (w : WantedNames) where
  abbrev pub entries_due : ℕ × ℕ → List EntryRec
  entries_due d = if is_among w.rebuilt d.0 then entries_in w.entries d.0 else entries_in n.entries d.0

  unfoldable pub renamed_entries : List EntryRec
  renamed_entries = flat_map entries_due w.parents

abbrev pub whole_with : ℕ × ℕ → DirRec
whole_with d = record { ino = d.0; parent = d.1; whole = true }

abbrev pub renamed_dirs : WantedNames → List DirRec
renamed_dirs w = map whole_with w.parents

-- Laws about the slots of a volume in which names change. Each function does nothing; its contract is the laws.
use Rattle.std.specs.Prelude.{◌≡◌, ◌+◌, ◌*◌, ◌^◌, ◌≤◌, ◌<◌, ℕ, true, List, [], length, map, Option, Some, None, unwrap_or}
use Rattle.std.specs.List.{AllByRecursion, Contains, flat_map}
use Rattle.std.specs.Option.{option_map}
use Rattle.xfs_word.specs.declared.extents.Extent.{Extent}
use Rattle.xfs_word.specs.Field.{part_of}
use Rattle.xfs_word.specs.Crc.{little_field_of}
use Rattle.xfs_geom.specs.Features.{or_else}
use Rattle.xfs_image.specs.Slots.{slot_bytes}
use Rattle.xfs_geom.specs.Volumes.{Volume, volume_of}
use Rattle.xfs_geom.specs.declared.geometry.Geometry.{Geometry}
use Rattle.xfs_dirindex.specs.Mapped.{OffsetsAscend}
use Rattle.xfs_inodebuild.specs.declared.forks.ForkWanted.{ForkWanted}
use Rattle.xfs_inode.specs.Files.{extent_blocks, no_attrs}
use Rattle.xfs_names.specs.declared.building.BuiltDirectory.{BuiltDirectory}
use Rattle.xfs_place.specs.Claims.{ClaimedOnce}
use Rattle.xfs_volume.specs.declared.cores.Core.{Core}
use Rattle.xfs_geom.specs.declared.records.Run.{Run}
use Rattle.xfs_tree.specs.Blocks.{each_of}
use Rattle.xfs_inode.specs.Forks.{core_type, fork_extent}
use Rattle.xfs_inode.specs.Slots.{fork_bytes}
use Rattle.xfs_render.specs.Slots.{IsMadeSlot, IsSlotDue, SetsFork, wanted_of}
use Rattle.xfs_render.specs.declared.wanted_slots.SlotWanted.{SlotWanted}
use Rattle.xfs_rename.specs.xfs_built.Extents.{extent_of_run}
use Rattle.xfs_rename.specs.xfs_changes.Forks.{extents_fork, run_bytes, short_fork}
use Rattle.xfs_rename.specs.xfs_changes.Slots.{changes_of, fork_at, links_held_at, links_set, with_changes}
use Rattle.xfs_disk.specs.Blocks.{Image, bytes_of_block}
use Rattle.xfs_disk.specs.declared.stamp.Stamp.{Stamp}
use Rattle.xfs_inode.specs.Named.{named_attr, slot_reads}
use Rattle.xfs_inode.specs.declared.files.FileRead.{FileRead}
use Rattle.xfs_volume.specs.declared.files.FileRec.{FileRec}
use Rattle.xfs_rename.specs.xfs_changes.declared.forks.DirectoryFork.{DirectoryFork}
use Rattle.xfs_rename.specs.xfs_changes.declared.lost_found.Lost.{Lost}
use Rattle.xfs_rename.specs.xfs_changes.declared.changes.SlotChange.{SlotChange}
use Rattle.xfs_restored.specs.Changes.{ChangesAscend, LinksAscend, SlotsAscend, directory_change, first_change, inodes_taken, lost_slot, with_change}
use Rattle.xfs_rename.specs.xfs_built.Directories.{BuiltRuns, FitsExtent, IsFileOf, IsShortFileOf}
use Rattle.xfs_rename.specs.xfs_built.Pieces.{IsPlacedRun, offsets_in, places_of_runs}
use Rattle.xfs_restored.specs.Reading.{AreExtents, IsFreshDirectory, KeepsAttributes, ReadsBefore, StandsBeside, directory_file, forked_core, forked_file, fresh_directory_slot, kept_directory_slot, made_core, rebuilt_file}

-- What is then wanted of a slot is what was wanted of it before, with what names change in it.
abbrev pub ChangesJoinSlots : Type 0
ChangesJoinSlots = (ino : ℕ) (cs : List SlotChange) (low : ℕ) → ChangesAscend low cs → (ws : List SlotWanted) (first : ℕ) → SlotsAscend first ws
    → wanted_of (with_changes cs ws) ino ≡ with_change (first_change cs ino) (wanted_of ws ino)

-- The extents of a fork that has the bytes of runs are those of the runs.
abbrev pub ForksReadBack : Type 0
ForksReadBack = (v : Volume) (slot : List ℕ) (runs : List Run) → AllByRecursion (FitsExtent v) runs
    → part_of slot 176 (length (flat_map (run_bytes v) runs)) ≡ flat_map (run_bytes v) runs → each_of (length runs) (fork_extent slot) ≡ map (extent_of_run v) runs

-- Of a new cluster the first inode is lost+found: of its slot its core, its fork and its links are wanted (`lost`). The slots of
-- the others, of which nothing was wanted before, are free (`free`).
abbrev pub ClusterChangesAreWantedLost : Type 0
ClusterChangesAreWantedLost = (v : Volume) (s : Stamp) (l : Lost) (files : List FileRec) (forks : List DirectoryFork) (links : List (ℕ × ℕ)) (slots : List SlotWanted)
    → length l.added ≤ 1 → LinksAscend l 0 links → SlotsAscend 0 slots → (p : ℕ × ℕ) → Contains links p → l.made ≡ true → l.new ≡ p.0
    → wanted_of slots p.0 ≡ None → wanted_of (with_changes (changes_of v s l files forks links) slots) p.0 ≡ Some (lost_slot v s files forks p)

-- of the same, `free`
abbrev pub ClusterChangesAreWantedFree : Type 0
ClusterChangesAreWantedFree = (v : Volume) (s : Stamp) (l : Lost) (files : List FileRec) (forks : List DirectoryFork) (links : List (ℕ × ℕ)) (slots : List SlotWanted)
    → length l.added ≤ 1 → LinksAscend l 0 links → SlotsAscend 0 slots → (image : Image) (generation : ℕ) (p : ℕ × ℕ) (j : ℕ) (old new : List ℕ) → Contains links p
    → j + 1 < inodes_taken l p.0 → wanted_of slots (p.0 + 1 + j) ≡ None → IsSlotDue v generation (with_changes (changes_of v s l files forks links) slots) (p.0 + 1 + j) old new
    → slot_reads v image (p.0 + 1 + j) new ≡ FileRead.Free

-- The slot of a directory that is made anew reads as a file in use: in short form (`short`), whose bytes it has (`bytes`), or in
-- blocks, whose extents are those of the runs (`blocks`). So reads lost+found where it is new, and a root that is made anew.
abbrev pub FreshDirectoriesReadBytes : Type 0
FreshDirectoriesReadBytes = (v : Volume) (generation : ℕ) (core : Core) (fork : ForkWanted) (nlink : Option ℕ) (old slot : List ℕ) → IsFreshDirectory core
    → IsMadeSlot v generation (fresh_directory_slot core fork nlink) old slot → part_of slot 176 (length fork.bytes) ≡ fork.bytes

-- of the same, `short`
abbrev pub FreshDirectoriesReadShort : Type 0
FreshDirectoriesReadShort = (v : Volume) (image : Image) (generation : ℕ) (core : Core) (b : BuiltDirectory) (nlink : Option ℕ) (old slot : List ℕ) → IsFreshDirectory core
    → IsMadeSlot v generation (fresh_directory_slot core (short_fork 0 b) nlink) old slot → length b.image.short.items ≤ 336
    → slot_reads v image core.ino slot
    ≡ FileRead.File (directory_file core.ino (made_core core (short_fork 0 b) (unwrap_or nlink core.nlink) (little_field_of slot 100 4)) [] no_attrs)

-- of the same, `blocks`
abbrev pub FreshDirectoriesReadBlocks : Type 0
FreshDirectoriesReadBlocks = (v : Volume) (image : Image) (generation : ℕ) (core : Core) (b : BuiltDirectory) (runs : List Run) (nlink : Option ℕ) (old slot : List ℕ)
    → IsFreshDirectory core → IsMadeSlot v generation (fresh_directory_slot core (extents_fork v 0 runs b) nlink) old slot → AreExtents v runs → AllByRecursion (FitsExtent v) runs
    → 16 * length runs ≤ 336 → b.image.data_blocks < 2 ^ 21 → b.image.data_blocks + b.image.index_blocks + b.image.free_blocks ≡ extent_blocks (map (extent_of_run v) runs)
    → slot_reads v image core.ino slot
    ≡ FileRead.File (directory_file core.ino (made_core core (extents_fork v 0 runs b) (unwrap_or nlink core.nlink) (little_field_of slot 100 4)) (map (extent_of_run v) runs) no_attrs)

-- Runs of a directory that stand on blocks of the volume without a fixed use, no two of which have a block in common, at file blocks
-- that ascend, have extents that lie in the volume in file order (`extents`), and fit the packed form (`fit`).
abbrev pub PlacedRunsAreExtentsFit : Type 0
PlacedRunsAreExtentsFit = (g : Geometry) (runs : List Run) → AllByRecursion (IsPlacedRun (volume_of g)) runs → AllByRecursion (FitsExtent (volume_of g)) runs

-- of the same, `extents`
abbrev pub PlacedRunsAreExtentsExtents : Type 0
PlacedRunsAreExtentsExtents = (g : Geometry) (runs : List Run) → AllByRecursion (IsPlacedRun (volume_of g)) runs → ClaimedOnce runs → OffsetsAscend 0 (offsets_in runs)
    → AreExtents (volume_of g) runs

-- of the same, `count`
abbrev pub PlacedRunsAreExtentsCount : Type 0
PlacedRunsAreExtentsCount = (v : Volume) (runs : List Run) → extent_blocks (map (extent_of_run v) runs) ≡ length (places_of_runs runs)

-- The slot of a directory that is kept and built anew reads in the new image as the directory with the fork that was built, with the
-- attributes that it had or without them, and with its number of names: its extents are those of its runs (`blocks`), or it has none
-- and is in short form (`short`). It has the bytes of the fork (`bytes`).
abbrev pub RebuiltSlotsReadBlocks : Type 0
RebuiltSlotsReadBlocks = (v : Volume) (generation ino : ℕ) (image now : Image) (f : FileRec) (drop nlink : Option ℕ) (attributes : ℕ) (b : BuiltDirectory) (runs : List Run) (old new : List ℕ)
    → IsMadeSlot v generation (kept_directory_slot ino drop (extents_fork v attributes runs b) nlink) old new → ReadsBefore v image ino old f drop
    → KeepsAttributes v image now ino old (extents_fork v attributes runs b) (map (extent_of_run v) runs) drop → core_type f.core ≡ 4 → b.image.data_blocks < 2 ^ 21
    → 16 * length runs ≤ fork_bytes f.core.forkoff → AllByRecursion (FitsExtent v) runs → AreExtents v runs
    → slot_reads v now ino new ≡ FileRead.File (rebuilt_file f drop (extents_fork v attributes runs b) (map (extent_of_run v) runs) nlink (little_field_of new 100 4))

-- of the same, `short`
abbrev pub RebuiltSlotsReadShort : Type 0
RebuiltSlotsReadShort = (v : Volume) (generation ino : ℕ) (image now : Image) (f : FileRec) (drop nlink : Option ℕ) (attributes : ℕ) (b : BuiltDirectory) (old new : List ℕ)
    → IsMadeSlot v generation (kept_directory_slot ino drop (short_fork attributes b) nlink) old new → ReadsBefore v image ino old f drop
    → KeepsAttributes v image now ino old (short_fork attributes b) [] drop → core_type f.core ≡ 4 → length b.image.short.items < 2 ^ 63
    → length b.image.short.items ≤ fork_bytes f.core.forkoff
    → slot_reads v now ino new ≡ FileRead.File (rebuilt_file f drop (short_fork attributes b) [] nlink (little_field_of new 100 4))

-- of the same, `bytes`
abbrev pub RebuiltSlotsReadBytes : Type 0
RebuiltSlotsReadBytes = (v : Volume) (generation ino : ℕ) (drop nlink : Option ℕ) (fork : ForkWanted) (old new : List ℕ)
    → IsMadeSlot v generation (kept_directory_slot ino drop fork nlink) old new → part_of new 176 (length fork.bytes) ≡ fork.bytes

-- The slot of a directory whose data fork was replaced reads in another image as the directory with that fork, and the attributes
-- that it had: with the extents of the runs (`blocks`), or in short form (`short`), where the block of its attributes is as it was
-- and the new fork stands beside them.
abbrev pub ForkedDirectoriesReadBlocks : Type 0
ForkedDirectoriesReadBlocks = (v : Volume) (ino : ℕ) (fork : ForkWanted) (old new : List ℕ) → SetsFork v ino fork old new → (image now : Image) (file : FileRec)
    → slot_reads v image ino old ≡ FileRead.File file → core_type file.core ≡ 4
    → option_map (bytes_of_block now) (named_attr v ino old) ≡ option_map (bytes_of_block image) (named_attr v ino old) → (es : List Extent) → fork.size < 2 ^ 63
    → StandsBeside v image ino old fork es → (runs : List Run) → es ≡ map (extent_of_run v) runs → fork.format ≡ 2 → fork.nextents ≡ length runs
    → fork.bytes ≡ flat_map (run_bytes v) runs → 16 * length runs ≤ fork_bytes file.core.forkoff → AllByRecursion (FitsExtent v) runs → AreExtents v runs
    → slot_reads v now ino new ≡ FileRead.File (forked_file file (forked_core file.core fork (little_field_of new 100 4)) es)

-- of the same, `short`
abbrev pub ForkedDirectoriesReadShort : Type 0
ForkedDirectoriesReadShort = (v : Volume) (ino : ℕ) (fork : ForkWanted) (old new : List ℕ) → SetsFork v ino fork old new → (image now : Image) (file : FileRec)
    → slot_reads v image ino old ≡ FileRead.File file → core_type file.core ≡ 4
    → option_map (bytes_of_block now) (named_attr v ino old) ≡ option_map (bytes_of_block image) (named_attr v ino old) → (es : List Extent) → fork.size < 2 ^ 63
    → StandsBeside v image ino old fork es → es ≡ [] → fork.format ≡ 1 → fork.nextents ≡ 0 → fork.size ≤ fork_bytes file.core.forkoff
    → slot_reads v now ino new ≡ FileRead.File (forked_file file (forked_core file.core fork (little_field_of new 100 4)) es)

-- Of the slot of a directory that is built anew its fork is wanted, beside what was wanted before (`any`): where the directory is no
-- new lost+found and nothing was wanted, just the fork and its links (`alone`), else that too (`beside`).
abbrev pub ForksAreWantedAny : Type 0
ForksAreWantedAny = (v : Volume) (s : Stamp) (l : Lost) (files : List FileRec) (forks : List DirectoryFork) (links : List (ℕ × ℕ)) (slots : List SlotWanted)
    → length l.added ≤ 1 → LinksAscend l 0 links → SlotsAscend 0 slots → (p : ℕ × ℕ) (fork : ForkWanted) → Contains links p → fork_at forks p.0 ≡ Some fork
    → wanted_of (with_changes (changes_of v s l files forks links) slots) p.0 ≡ with_change (Some (directory_change v s l files fork p)) (wanted_of slots p.0)

-- of the same, `alone`
abbrev pub ForksAreWantedAlone : Type 0
ForksAreWantedAlone = (v : Volume) (s : Stamp) (l : Lost) (files : List FileRec) (forks : List DirectoryFork) (links : List (ℕ × ℕ)) (slots : List SlotWanted)
    → length l.added ≤ 1 → LinksAscend l 0 links → SlotsAscend 0 slots → (p : ℕ × ℕ) (fork : ForkWanted) → Contains links p → fork_at forks p.0 ≡ Some fork
    → (l.new ≡ p.0 → ⊥) → wanted_of slots p.0 ≡ None
    → wanted_of (with_changes (changes_of v s l files forks links) slots) p.0 ≡ Some (kept_directory_slot p.0 None fork (links_set (links_held_at files p.0) p.1))

-- of the same, `beside`
abbrev pub ForksAreWantedBeside : Type 0
ForksAreWantedBeside = (v : Volume) (s : Stamp) (l : Lost) (files : List FileRec) (forks : List DirectoryFork) (links : List (ℕ × ℕ)) (slots : List SlotWanted)
    → length l.added ≤ 1 → LinksAscend l 0 links → SlotsAscend 0 slots → (p : ℕ × ℕ) (fork : ForkWanted) → Contains links p → fork_at forks p.0 ≡ Some fork
    → (l.new ≡ p.0 → ⊥) → (w : SlotWanted) → wanted_of slots p.0 ≡ Some w
    → wanted_of (with_changes (changes_of v s l files forks links) slots) p.0
    ≡ Some (record { ino = w.ino; base = w.base; drop_attrs = w.drop_attrs; fork = Some fork; nlink = or_else (links_set (links_held_at files p.0) p.1) w.nlink })

-- The files that slots then read as are those that the directories were built for: kept ones (`rebuilt`, `rebuilt_short`), and those
-- that are made anew (`fresh`, `fresh_short`).
abbrev pub SlotsHaveBuiltFilesRebuilt : Type 0
SlotsHaveBuiltFilesRebuilt = (v : Volume) (d : BuiltRuns) (f : FileRec) (drop nlink : Option ℕ) (attributes crc : ℕ) → f.ino ≡ d.directory.ino
    → IsFileOf v d.directory d.runs (rebuilt_file f drop (extents_fork v attributes d.runs d.directory) (map (extent_of_run v) d.runs) nlink crc)

-- of the same, `rebuilt_short`
abbrev pub SlotsHaveBuiltFilesRebuiltShort : Type 0
SlotsHaveBuiltFilesRebuiltShort = (v : Volume) (image : Image) (d : BuiltRuns) (f : FileRec) (drop nlink : Option ℕ) (attributes crc : ℕ) → f.ino ≡ d.directory.ino
    → part_of (slot_bytes v image f.ino) 176 (length d.directory.image.short.items) ≡ d.directory.image.short.items
    → IsShortFileOf v image d.directory (rebuilt_file f drop (short_fork attributes d.directory) [] nlink crc)

-- of the same, `fresh`
abbrev pub SlotsHaveBuiltFilesFresh : Type 0
SlotsHaveBuiltFilesFresh = (v : Volume) (d : BuiltRuns) (core : Core) (nlink crc : ℕ) → core.ino ≡ d.directory.ino
    → IsFileOf v d.directory d.runs (directory_file core.ino (made_core core (extents_fork v 0 d.runs d.directory) nlink crc) (map (extent_of_run v) d.runs) no_attrs)

-- of the same, `fresh_short`
abbrev pub SlotsHaveBuiltFilesFreshShort : Type 0
SlotsHaveBuiltFilesFreshShort = (v : Volume) (image : Image) (d : BuiltRuns) (core : Core) (nlink crc : ℕ) → core.ino ≡ d.directory.ino
    → part_of (slot_bytes v image core.ino) 176 (length d.directory.image.short.items) ≡ d.directory.image.short.items
    → IsShortFileOf v image d.directory (directory_file core.ino (made_core core (short_fork 0 d.directory) nlink crc) [] no_attrs)

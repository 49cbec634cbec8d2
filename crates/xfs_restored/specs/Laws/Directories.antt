-- Laws about directories that were built anew. Each function does nothing; its contract is the laws.
use Rattle.std.specs.Prelude.{◌≡◌, ◌/◌, ◌≤◌, true, false, ℕ, List, length, map}
use Rattle.std.specs.List.{AllByRecursion, Contains}
use Rattle.xfs_disk.specs.Blocks.{Image}
use Rattle.xfs_disk.specs.Lists.{is_among}
use Rattle.xfs_inode.specs.Slots.{fork_bytes}
use Rattle.xfs_disk.specs.declared.stamp.Stamp.{Stamp}
use Rattle.xfs_geom.specs.Volumes.{Volume, volume_of}
use Rattle.xfs_geom.specs.declared.geometry.Geometry.{Geometry}
use Rattle.xfs_geom.specs.declared.records.Run.{Run}
use Rattle.xfs_volume.specs.declared.files.FileRec.{FileRec}
use Rattle.xfs_naming.specs.Naming.{NumbersAscend}
use Rattle.xfs_names.specs.Built.{CanBeBuilt, IsBuiltAsWanted, fork_room}
use Rattle.xfs_names.specs.declared.building.BuiltDirectory.{BuiltDirectory}
use Rattle.xfs_names.specs.declared.building.ForkRoom.{ForkRoom}
use Rattle.xfs_names.specs.declared.records.WantedNames.{WantedNames}
use Rattle.xfs_place.specs.Objects.{ServeAsks, asks_of}
use Rattle.xfs_place.specs.declared.placed.Placed.{Placed}
use Rattle.xfs_render.specs.Objects.{HasObjects, asks_with_kind, blocks_of_asks}
use Rattle.xfs_render.specs.Plans.{HoldsPlan}
use Rattle.xfs_render.specs.declared.bytes.Bytes.{Bytes}
use Rattle.xfs_rename.specs.xfs_empty.Planning.{StandsFor}
use Rattle.xfs_rename.specs.xfs_rebuild.declared.names_due.NamesDue.{NamesDue}
use Rattle.xfs_rename.specs.xfs_changes.Forks.{forks_of}
use Rattle.xfs_rename.specs.xfs_built.Asks.{blocks_of_built, objects_of, stands_in_blocks}
use Rattle.xfs_rename.specs.Renames.{IsRenamed, renamed_wanted}
use Rattle.xfs_rename.specs.xfs_changes.Rooms.{fork_rooms}
use Rattle.xfs_rename.specs.declared.planning.Renamed.{Renamed}
use Rattle.xfs_rename.specs.xfs_built.Directories.{BuiltRuns, HasOwnCounts, StandsInRuns, ReadsSo, with_runs}
use Rattle.xfs_restored.specs.RunForks.{FindsFork}
use Rattle.xfs_restored.specs.Reading.{HasFileExtents}
use Rattle.xfs_restored.specs.Renamed.{HoldsBuilt}

-- An image that has the blocks of directories as objects has those of each directory in the runs of its own, in the order of its
-- file blocks, however many runs these are.
abbrev pub DirectoriesStandInTheirRuns : Type 0
DirectoriesStandInTheirRuns = (v : Volume) (image : Image) (rooms : List ForkRoom) (built : List BuiltDirectory) (cuts : List ℕ) (runs : List Run) → AllByRecursion HasOwnCounts built
    → ServeAsks (asks_of (objects_of rooms built)) cuts runs
    → HasObjects v (blocks_of_asks (asks_with_kind (objects_of rooms built)) cuts runs) (blocks_of_built built) (length (blocks_of_asks (asks_with_kind (objects_of rooms built)) cuts runs)) image
    → AllByRecursion (StandsInRuns v image) (with_runs built cuts runs)

-- In an image that holds the plan of a rebuild in which names change, the blocks of each directory that is built anew stand in its
-- runs, in the order of its file blocks, each as it was built and sealed for it at its place (`stands`). A file with its number that
-- has these runs as its extents, or its short form in its slot, reads as whole, with the entries that are wanted, in their order, and
-- the parent that is wanted (`reads`). All this of what a plan says of directories, which an image that holds it has (`held`).
abbrev pub RebuiltDirectoriesReadHeld : Type 0
RebuiltDirectoriesReadHeld = (g : Geometry) (sector : List ℕ) (s : Stamp) (image : Image) (n : NamesDue) (r : Renamed) (is : IsRenamed g sector s image n r) → CanBeBuilt is.w
    → ServeAsks (asks_of (renamed_wanted g n is.w is.built).objects) is.placed.cuts is.placed.runs → (now : Image) → HoldsPlan now is.left.plan
    → HoldsBuilt g n is.w is.built is.placed is.bytes now

-- of the same, `stands`
abbrev pub RebuiltDirectoriesReadStands : Type 0
RebuiltDirectoriesReadStands = (g : Geometry) (n : NamesDue) (w : WantedNames) (built : List BuiltDirectory) (p : Placed) (b : Bytes) (image : Image) → HoldsBuilt g n w built p b image
    → AllByRecursion (StandsInRuns (volume_of g) image) (with_runs built p.cuts p.runs)

-- of the same, `reads`
abbrev pub RebuiltDirectoriesReadReads : Type 0
RebuiltDirectoriesReadReads = (g : Geometry) (n : NamesDue) (w : WantedNames) (built : List BuiltDirectory) (p : Placed) (b : Bytes) (image : Image) → HoldsBuilt g n w built p b image
    → AllByRecursion (ReadsSo (volume_of g) image w) (with_runs built p.cuts p.runs)

-- Each directory that is built anew finds its own fork among those of all: that of its runs, or its short form.
abbrev pub DirectoriesFindTheirForks : Type 0
DirectoriesFindTheirForks = (v : Volume) (files : List FileRec) (built : List BuiltDirectory) (cuts : List ℕ) (runs : List Run)
    → NumbersAscend 0 (map (λ (b : BuiltDirectory). b.ino) built) → AllByRecursion (FindsFork v files (forks_of v files built cuts runs)) (with_runs built cuts runs)

-- The runs of each directory with blocks, where they were placed for the plan, are extents of a file: they lie in the volume, in file
-- order, no two with a block in common, and have the blocks that the directory was built with (`extents`). They are no more than its
-- fork has room for extents of 16 bytes (`few`).
abbrev pub RebuiltRunsAreExtentsExtents : Type 0
RebuiltRunsAreExtentsExtents = (g : Geometry) (n : NamesDue) (w : WantedNames) (built : List BuiltDirectory) (p : Placed) (b : Bytes) (image : Image) → HoldsBuilt g n w built p b image
    → StandsFor (renamed_wanted g n w built) p → AllByRecursion (λ (d : BuiltRuns). stands_in_blocks d.directory ≡ true → HasFileExtents (volume_of g) d) (with_runs built p.cuts p.runs)

-- of the same, `few`
abbrev pub RebuiltRunsAreExtentsFew : Type 0
RebuiltRunsAreExtentsFew = (g : Geometry) (n : NamesDue) (w : WantedNames) (built : List BuiltDirectory) (p : Placed) (b : Bytes) (image : Image) → HoldsBuilt g n w built p b image
    → StandsFor (renamed_wanted g n w built) p
    → AllByRecursion (λ (d : BuiltRuns). stands_in_blocks d.directory ≡ true → length d.runs ≤ fork_room (fork_rooms w.rebuilt n.files) d.directory.ino / 16) (with_runs built p.cuts p.runs)

-- A directory that was built in short form has no more bytes than there is room in its fork (`short`), and the room that is told of
-- the fork of a file that is built anew is that up to its attributes (`told`).
abbrev pub BuiltForksFitShort : Type 0
BuiltForksFitShort = (w : WantedNames) (rooms : List ForkRoom) (b : BuiltDirectory) → IsBuiltAsWanted w rooms b → stands_in_blocks b ≡ false → length b.image.short.items ≤ fork_room rooms b.ino

-- of the same, `told`
abbrev pub BuiltForksFitTold : Type 0
BuiltForksFitTold = (rebuilt : List ℕ) (files : List FileRec) (f : FileRec) → NumbersAscend 0 (map (λ (x : FileRec). x.ino) files) → Contains files f
    → is_among rebuilt f.ino ≡ true → fork_room (fork_rooms rebuilt files) f.ino ≡ fork_bytes f.core.forkoff

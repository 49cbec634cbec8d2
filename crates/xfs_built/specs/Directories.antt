-- Directories that were built anew, as they stand in an image.
use Rattle.std.specs.Prelude.{◌≡◌, ℕ, true, false, ◌+◌, ◌*◌, ◌^◌, ◌<◌, if◌then◌else◌, List, [], ◌∷◌, length, map, take, drop, slice_index_or, Some}
use Rattle.std.specs.List.{AllByRecursion}
use Rattle.xfs_disk.specs.Blocks.{Image, bytes_of_block}
use Rattle.xfs_word.specs.Field.{part_of}
use Rattle.xfs_word.specs.declared.kinds.Seal.{Seal}
use Rattle.xfs_word.specs.declared.kinds.SealKind.{SealKind}
use Rattle.xfs_geom.specs.Volumes.{Volume}
use Rattle.xfs_geom.specs.declared.records.Run.{Run}
use Rattle.xfs_kinds.specs.FileTrees.{fits_extent}
use Rattle.xfs_volume.specs.declared.files.FileRec.{FileRec}
use Rattle.xfs_dirindex.specs.Mapped.{mapped}
use Rattle.xfs_dirbuild.specs.Placed.{file_blocks}
use Rattle.xfs_image.specs.Directories.{entries_of, is_whole, mapped_blocks, parent_of}
use Rattle.xfs_image.specs.Slots.{slot_bytes}
use Rattle.xfs_naming.specs.Naming.{entries_in}
use Rattle.xfs_names.specs.Pairs.{parent_or_itself}
use Rattle.xfs_names.specs.declared.building.BuiltDirectory.{BuiltDirectory}
use Rattle.xfs_names.specs.declared.records.WantedNames.{WantedNames}
use Rattle.xfs_render.specs.Objects.{IsSealedBlock, directory_kind}
use Rattle.xfs_built.specs.Extents.{extent_of_run}
use Rattle.xfs_built.specs.Asks.{asks_for, stands_in_blocks}
use Rattle.xfs_built.specs.Pieces.{IsLowRun, offsets_in, places_of_runs, taken}

-- how many asks a directory has, and how many runs these have
abbrev pub asks_of_built : BuiltDirectory → ℕ
asks_of_built b = length (asks_for b.ino b.image)

abbrev pub runs_of_built : BuiltDirectory → List ℕ → ℕ
runs_of_built b cuts = taken (asks_for b.ino b.image) cuts

-- a directory with the runs of its blocks
pub record BuiltRuns : Type 0 where
  pub directory : BuiltDirectory
  pub runs : List Run

abbrev pub built_runs : BuiltDirectory → List Run → BuiltRuns
built_runs b runs = record { directory = b; runs = runs }

-- directories with their runs, of which those with blocks have the next ones, as many as the cuts of their asks say
unfoldable pub with_runs : List BuiltDirectory → List ℕ → List Run → List BuiltRuns
with_runs [] cuts runs = []
with_runs (b ∷ bs) cuts runs =
    if stands_in_blocks b
    then built_runs b (take (runs_of_built b cuts) runs) ∷ with_runs bs (drop (asks_of_built b) cuts) (drop (runs_of_built b cuts) runs)
    else built_runs b [] ∷ with_runs bs cuts runs

-- a run whose extent can be packed
abbrev pub FitsExtent : Volume → Run → Type 0
FitsExtent v r = fits_extent (extent_of_run v r) ≡ true

-- a block of a directory is sealed for it, at its place
abbrev pub directory_seal : Volume → ℕ → SealKind → ℕ → Seal
directory_seal v ino kind place = record { kind = kind; place = 8 * place; owner = Some ino; uuid = v.uuid }

abbrev pub block_built : BuiltDirectory → ℕ → List ℕ
block_built b k = slice_index_or b.image.blocks k []

-- the blocks of a directory stand in its runs, in the order of its file blocks, each as it was built and sealed for it at its place
pub record StandsIn (v : Volume) (image : Image) (b : BuiltDirectory) (runs : List Run) : Type 0 where
  pub offsets' : offsets_in runs ≡ file_blocks b.image.data_blocks b.image.index_blocks b.image.free_blocks
  pub count : length (places_of_runs runs) ≡ length b.image.blocks
  pub low' : AllByRecursion IsLowRun runs
  pub each : (k : ℕ) → k < length b.image.blocks
      → IsSealedBlock (directory_seal v b.ino (directory_kind (block_built b k)) (slice_index_or (places_of_runs runs) k 0)) (block_built b k) (bytes_of_block image (slice_index_or (places_of_runs runs) k 0))

-- where it has blocks
abbrev pub StandsInRuns : Volume → Image → BuiltRuns → Type 0
StandsInRuns v image p = stands_in_blocks p.directory ≡ true → StandsIn v image p.directory p.runs

-- how many blocks a directory has, where it has any
pub record HasOwnCounts (b : BuiltDirectory) : Type 0 where
  pub low : b.ino < 2 ^ 63
  pub data' : b.image.data_blocks < 2 ^ 21
  pub index' : b.image.index_blocks < 2 ^ 21
  pub free' : b.image.free_blocks < 2 ^ 21
  pub count : length b.image.blocks ≡ b.image.data_blocks + b.image.index_blocks + b.image.free_blocks
  pub none : b.image.data_blocks ≡ 0 → b.image.blocks ≡ []

-- a file is the one that a directory with blocks was built for: its extents are the runs of these
pub record IsFileOf (v : Volume) (b : BuiltDirectory) (runs : List Run) (f : FileRec) : Type 0 where
  pub ino' : f.ino ≡ b.ino
  pub format' : f.core.format ≡ 2
  pub size' : f.core.size ≡ 4096 * b.image.data_blocks
  pub extents' : f.extents ≡ map (extent_of_run v) runs

-- or a directory without blocks, whose short form stands in its slot
pub record IsShortFileOf (v : Volume) (image : Image) (b : BuiltDirectory) (f : FileRec) : Type 0 where
  pub ino' : f.ino ≡ b.ino
  pub format' : f.core.format ≡ 1
  pub bytes' : part_of (slot_bytes v image f.ino) 176 f.core.size ≡ b.image.short.items

-- a directory reads as whole, with the entries that are wanted, in their order, and the parent that is wanted
pub record ReadsAsWanted (v : Volume) (image : Image) (w : WantedNames) (f : FileRec) : Type 0 where
  pub whole : is_whole v image f ≡ true
  pub entries' : entries_of v image f ≡ entries_in w.entries f.ino
  pub parent' : parent_of v image f ≡ parent_or_itself w.parents f.ino

-- its mapped blocks are those of its runs
pub record MapsRuns (v : Volume) (image : Image) (b : BuiltDirectory) (runs : List Run) (f : FileRec) : Type 0 where
  pub mapped' : mapped_blocks v image f ≡ mapped (file_blocks b.image.data_blocks b.image.index_blocks b.image.free_blocks) (map (bytes_of_block image) (places_of_runs runs))

-- a file of a directory that was built, in blocks or in short form
pub record IsBuiltFile (v : Volume) (image : Image) (p : BuiltRuns) (f : FileRec) : Type 0 where
  pub blocks : stands_in_blocks p.directory ≡ true → IsFileOf v p.directory p.runs f
  pub short : stands_in_blocks p.directory ≡ false → IsShortFileOf v image p.directory f

-- it reads as it is wanted
abbrev pub ReadsSo : Volume → Image → WantedNames → BuiltRuns → Type 0
ReadsSo v image w p = (f : FileRec) → IsBuiltFile v image p f → ReadsAsWanted v image w f

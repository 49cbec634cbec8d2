-- The data forks of the directories that are built anew, by where their blocks stand (chapter "Data Extents").
use Rattle.std.specs.Prelude.{◌≡◌, ℕ, ◌≤◌, ◌+◌, ◌*◌, ◌==◌, if◌then◌else◌, List, [], ◌∷◌, take, drop, length}
use Rattle.std.specs.List.{filter, flat_map, sum_by}
use Rattle.xfs_word.specs.Extent.{packed}
use Rattle.xfs_word.specs.declared.extents.Extent.{Extent}
use Rattle.xfs_geom.specs.Volumes.{Volume}
use Rattle.xfs_geom.specs.declared.records.Run.{Run}
use Rattle.xfs_volume.specs.declared.files.FileRec.{FileRec}
use Rattle.xfs_inodebuild.specs.declared.forks.ForkWanted.{ForkWanted}
use Rattle.xfs_names.specs.declared.building.BuiltDirectory.{BuiltDirectory}
use Rattle.xfs_built.specs.Extents.{extent_of_run}
use Rattle.xfs_built.specs.Asks.{asks_for, stands_in_blocks}
use Rattle.xfs_changes.specs.declared.forks.DirectoryFork.{DirectoryFork}
use Rattle.xfs_changes.specs.declared.forks.TakenFork.{TakenFork}

-- a run as the bytes of its extent
abbrev pub run_bytes : Volume → Run → List ℕ
run_bytes v r = packed (extent_of_run v r)

-- the blocks of the attributes of a file, and of the file with a number; none where there is none
abbrev pub attribute_blocks : FileRec → ℕ
attribute_blocks f = sum_by (λ (e : Extent). e.count) f.rest.attr_extents

abbrev pub first_attribute_blocks : List FileRec → ℕ
first_attribute_blocks [] = 0
first_attribute_blocks (f ∷ fs) = attribute_blocks f

abbrev pub attribute_blocks_at : List FileRec → ℕ → ℕ
attribute_blocks_at files ino = first_attribute_blocks (filter (λ (f : FileRec). f.ino == ino) files)

abbrev pub short_fork : ℕ → BuiltDirectory → ForkWanted
short_fork attributes b = record { format = 1; size = length b.image.short.items; nblocks = attributes; nextents = 0; bytes = b.image.short.items }

abbrev pub extents_fork : Volume → ℕ → List Run → BuiltDirectory → ForkWanted
extents_fork v attributes runs b = record {
  format = 2;
  size = 4096 * b.image.data_blocks;
  nblocks = b.image.data_blocks + b.image.index_blocks + b.image.free_blocks + attributes;
  nextents = length runs;
  bytes = flat_map (run_bytes v) runs;
}

-- how many runs the first asks have
abbrev pub runs_in : List ℕ → ℕ
runs_in cuts = sum_by (λ (c : ℕ). c) cuts

-- the forks of directories, of which those with blocks have the next runs, as many as the cuts of their asks say
module _ (v : Volume) (files : List FileRec) where
  abbrev pub fork_listed : BuiltDirectory → ForkWanted → DirectoryFork
  fork_listed b fork = record { ino = b.ino; fork = fork }

  unfoldable pub forks_of : List BuiltDirectory → List ℕ → List Run → List DirectoryFork
  forks_of [] cuts runs = []
  forks_of (b ∷ bs) cuts runs =
      if stands_in_blocks b
      then fork_listed b (extents_fork v (attribute_blocks_at files b.ino) (take (runs_in (take (length (asks_for b.ino b.image)) cuts)) runs) b)
      ∷ forks_of bs (drop (length (asks_for b.ino b.image)) cuts) (drop (runs_in (take (length (asks_for b.ino b.image)) cuts)) runs)
      else fork_listed b (short_fork (attribute_blocks_at files b.ino) b) ∷ forks_of bs cuts runs

-- the fork of a directory with blocks, which has the first of the cuts and runs
pub record IsForkWithBlocks (v : Volume) (attributes : ℕ) (b : BuiltDirectory) (cuts : List ℕ) (runs : List Run) (t : TakenFork) : Type 0 where
  pub asks' : t.asks ≡ length (asks_for b.ino b.image)
  pub cuts' : t.asks ≤ length cuts
  pub count' : t.count ≡ runs_in (take t.asks cuts)
  pub runs' : t.count ≤ length runs
  pub fork' : t.fork ≡ extents_fork v attributes (take t.count runs) b

-- the fork of the first of some directories, and which cuts and runs are then left to the others
pub record IsNextFork (v : Volume) (files : List FileRec) (b : BuiltDirectory) (cuts : List ℕ) (runs : List Run) (t : TakenFork) : Type 0 where
  pub cuts' : t.asks ≤ length cuts
  pub runs' : t.count ≤ length runs
  pub next : (bs : List BuiltDirectory) → forks_of v files (b ∷ bs) cuts runs ≡ fork_listed v files b t.fork ∷ forks_of v files bs (drop t.asks cuts) (drop t.count runs)

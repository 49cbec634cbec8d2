-- The blocks of runs, one run behind the other.
use Rattle.std.specs.Prelude.{◌≡◌, ℕ, ◌+◌, ◌^◌, ◌≤◌, ◌<◌, List, [], ◌∷◌, ◌++◌, length, map, take, drop}
use Rattle.std.specs.List.{AllByRecursion, flat_map, range_with_len, sum_by}
use Rattle.xfs_disk.specs.Blocks.{Image, bytes_of_block}
use Rattle.xfs_geom.specs.Volumes.{Volume}
use Rattle.xfs_geom.specs.declared.records.Run.{Run}
use Rattle.xfs_dirindex.specs.Mapped.{mapped_block}
use Rattle.xfs_image.specs.Directories.{FileBlock}
use Rattle.xfs_place.specs.Objects.{ServeAsks}
use Rattle.xfs_place.specs.Wanted.{IsOffFixed}
use Rattle.xfs_place.specs.declared.wanted.ObjectKind.TheVariants.{Directory}
use Rattle.xfs_place.specs.declared.wanted.RunAsk.{RunAsk}
use Rattle.xfs_render.specs.Objects.{blocks_of_asks, run_blocks}
use Rattle.xfs_render.specs.declared.object_blocks.ObjectAsk.{ObjectAsk}
use Rattle.xfs_render.specs.declared.object_blocks.ObjectBlock.{ObjectBlock}

-- by their block numbers, and by their numbers in the file
abbrev pub run_places : Run → List ℕ
run_places r = range_with_len r.start r.count

abbrev pub run_offsets : Run → List ℕ
run_offsets r = range_with_len r.offset_word r.count

abbrev pub places_of_runs : List Run → List ℕ
places_of_runs runs = flat_map run_places runs

abbrev pub offsets_in : List Run → List ℕ
offsets_in runs = flat_map run_offsets runs

-- a block of an image as one of a file, and so blocks one behind the other
abbrev pub placed_block : Image → ℕ → ℕ → FileBlock
placed_block image place offset = record { block = place; mapped = mapped_block offset (bytes_of_block image place) }

abbrev pub placed_blocks : Image → List ℕ → List ℕ → List FileBlock
placed_blocks image [] offsets = []
placed_blocks image (place ∷ places) [] = []
placed_blocks image (place ∷ places) (offset ∷ offsets) = placed_block image place offset ∷ placed_blocks image places offsets

-- a run that can be an extent: it has few blocks, and its file blocks are low (chapter "Data Extents")
pub record IsLowRun (r : Run) : Type 0 where
  pub few : r.count < 2 ^ 21
  pub room : r.offset_word + r.count < 2 ^ 54

-- an ask of a directory: it is the owner, it asks for few blocks, and its file blocks are low
pub record IsPlainAsk (ino : ℕ) (a : RunAsk) : Type 0 where
  pub owner' : a.owner ≡ ino
  pub few : a.blocks < 2 ^ 21
  pub room : a.offset_word + a.blocks < 2 ^ 54

abbrev pub asked_offsets : RunAsk → List ℕ
asked_offsets a = range_with_len a.offset_word a.blocks

abbrev pub directory_ask : RunAsk → ObjectAsk
directory_ask a = record { kind = Directory; ask = a }

abbrev pub blocks_of_owner : ℕ → List Run → List ObjectBlock
blocks_of_owner ino runs = flat_map (run_blocks Directory ino) runs

-- how many runs the first asks have
abbrev pub taken : List RunAsk → List ℕ → ℕ
taken front cuts = sum_by (λ (c : ℕ). c) (take (length front) cuts)

-- the first asks have the first runs, with the file blocks that they ask for; the others have those behind them
pub record IsFrontOfAsks (ino : ℕ) (front rest : List RunAsk) (others : List ObjectAsk) (cuts : List ℕ) (runs : List Run) : Type 0 where
  pub offsets' : offsets_in (take (taken front cuts) runs) ≡ flat_map asked_offsets front
  pub blocks' : blocks_of_asks (map directory_ask front ++ others) cuts runs
      ≡ blocks_of_owner ino (take (taken front cuts) runs) ++ blocks_of_asks others (drop (length front) cuts) (drop (taken front cuts) runs)
  pub low' : AllByRecursion IsLowRun (take (taken front cuts) runs)
  pub rest' : ServeAsks rest (drop (length front) cuts) (drop (taken front cuts) runs)

-- what is known of a run that was placed
pub record IsPlacedRun (v : Volume) (r : Run) : Type 0 where
  pub some : 1 ≤ r.count
  pub inside : r.start + r.count ≤ v.dblocks
  pub clear : IsOffFixed v r
  pub low : IsLowRun r

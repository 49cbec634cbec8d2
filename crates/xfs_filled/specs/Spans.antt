-- Which runs each file has (chapter "Data Extents").
use Rattle.std.specs.Prelude.{◌≡◌, ℕ, ◌≤◌, ◌<◌, List, [], ◌∷◌, length, take, drop, slice_range, slice_index_or}
use Rattle.std.specs.List.{All, flat_map}
use Rattle.xfs_geom.specs.Volumes.{Volume}
use Rattle.xfs_geom.specs.declared.records.Run.{Run}
use Rattle.xfs_filled.specs.Forks.{extents_of_run, owned_by}
use Rattle.xfs_filled.specs.Numbers.{number_of}
use Rattle.xfs_filled.specs.declared.spans.RunSpan.{RunSpan}

-- runs stand in the order of the places of their files, those of each file together, with no more extents than fill a fork
abbrev pub AreRunsOf : Volume → List ℕ → List ℕ → List Run → Type 0
AreRunsOf v starts [] runs = runs ≡ []
AreRunsOf v starts (k ∷ ks) runs =
    (n : ℕ) × (n ≤ length runs) × All (λ (r : Run). r.owner ≡ number_of v starts k) (take n runs)
    × (length (flat_map (extents_of_run v) (take n runs)) ≤ 21) × AreRunsOf v starts ks (drop n runs)

-- a span has the runs of an owner, and no others; their extents fill no more than a fork
pub record HasRunsOf (v : Volume) (runs : List Run) (owner : ℕ) (span : RunSpan) : Type 0 where
  pub rise : span.from ≤ span.to
  pub inside : span.to ≤ length runs
  pub few : length (flat_map (extents_of_run v) (slice_range runs span.from span.to)) ≤ 21
  pub are : slice_range runs span.from span.to ≡ owned_by owner runs

abbrev pub no_run : Run
no_run = record { start = 0; count = 0; owner = 0; offset_word = 0 }

abbrev pub no_span : RunSpan
no_span = record { from = 0; to = 0 }

-- those of all files
pub record HasSpans (v : Volume) (starts : List ℕ) (files : ℕ) (runs : List Run) (spans : List RunSpan) : Type 0 where
  pub count : length spans ≡ files
  pub each : (k : ℕ) → k < files → HasRunsOf v runs (number_of v starts k) (slice_index_or spans k no_span)

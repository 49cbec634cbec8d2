-- Runs of blocks that belong to something, and no two of which have a block in common (chapter "Reverse-Mapping B+tree").
use Rattle.std.specs.Prelude.{◌≡◌, ℕ, true, false, ◌+◌, ◌^◌, ◌≤◌, List}
use Rattle.std.specs.List.{All}
use Rattle.xfs_geom.specs.Runs.{runs_on}
use Rattle.xfs_geom.specs.declared.records.Run.{Run}
use Rattle.xfs_geom.specs.declared.records.Span.{Span}
use Rattle.xfs_kinds.specs.OffsetWords.{offset_in_fork, is_file_data}
use Rattle.xfs_kinds.specs.MergedRuns.{AreRuns}

-- no two of the runs have a block in common
pub record ClaimedOnce (runs : List Run) : Type 0 where
  pub once : (block : ℕ) → runs_on runs block ≤ 1

-- a run has some blocks, which end by a block; the offsets of data of a file stay below the flags of an offset word, and other blocks have
-- no offset
pub record IsClaimedRun (top : ℕ) (r : Run) : Type 0 where
  pub some : 1 ≤ r.count
  pub inside : r.start + r.count ≤ top
  pub fits : is_file_data r.owner r.offset_word ≡ true → offset_in_fork r.offset_word + r.count ≤ 2 ^ 54
  pub plain : is_file_data r.owner r.offset_word ≡ false → offset_in_fork r.offset_word ≡ 0

-- the runs ascend
pub record AreClaims (top : ℕ) (runs : List Run) : Type 0 where
  pub ascend : AreRuns 0 runs
  pub each : All (IsClaimedRun top) runs

-- the blocks of a run
abbrev pub span_of_run : Run → Span
span_of_run r = record { start = r.start; count = r.count }

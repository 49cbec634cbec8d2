-- Runs of blocks as claims.
use Rattle.std.specs.Prelude.{ℕ, Bool, true, ◌≡◌, ◌+◌, ◌^◌, ◌≤◌, ◌<◌, ◌||◌, nat_le, List, [], ◌∷◌, map}
use Rattle.std.specs.List.{list_all, list_any}
use Rattle.xfs_geom.specs.declared.records.Run.{Run}
use Rattle.xfs_collections.specs.Blocks.{is_in, meets}

-- the first block of a run with its number of blocks
abbrev pub span_pair : Run → ℕ × ℕ
span_pair run = (run.start, run.count)

abbrev pub spans_of : List Run → List (ℕ × ℕ)
spans_of runs = map span_pair runs

-- two runs have no block in common
abbrev pub spans_apart : ℕ × ℕ → ℕ × ℕ → Bool
spans_apart x y = nat_le (x.0 + x.1) y.0 || nat_le (y.0 + y.1) x.0

-- no two of the runs have a block in common
abbrev pub SpansApart : List (ℕ × ℕ) → Type 0
SpansApart [] = Unit {0}
SpansApart (run ∷ rest) = (list_all (spans_apart run) rest ≡ true) × SpansApart rest

-- the run has a block, and it ends below 2^63
abbrev pub IsRun : Run → Type 0
IsRun run = (1 ≤ run.count) × (run.start + run.count < 2 ^ 63)

-- one of the runs has a block of the set
abbrev pub meets_any : (ℕ → Bool) → List (ℕ × ℕ) → Bool
meets_any set runs = list_any (λ run. meets set run.0 run.1) runs

-- the set with the blocks of the runs
abbrev pub with_blocks : (ℕ → Bool) → List (ℕ × ℕ) → ℕ → Bool
with_blocks set runs block = is_in runs block || set block

-- Sets of blocks, and runs of blocks: pairs of a first block and a number of blocks.
use Rattle.std.specs.Prelude.{ℕ, zero, suc, Bool, false, ◌+◌, ◌≤◌, ◌||◌, if◌then◌else◌, nat_lt, List, [], ◌∷◌}
use Rattle.xfs_disk.specs.Lists.{is_in_range}
use Rattle.std.specs.List.{list_any}

-- the run has the block
abbrev pub run_has : ℕ → ℕ × ℕ → Bool
run_has block run = is_in_range run.0 run.1 block

-- the set of the blocks of these runs
abbrev pub is_in : List (ℕ × ℕ) → ℕ → Bool
is_in runs block = list_any (run_has block) runs

-- one of the count blocks from start on is in the set
unfoldable pub meets : (ℕ → Bool) → ℕ → ℕ → Bool
meets set start zero = false
meets set start (suc count) = set start || meets set (start + 1) count

-- the runs have at least one block each and ascend, and no two have a block in common; the first begins at low or behind
abbrev pub RunsAscend : ℕ → List (ℕ × ℕ) → Type 0
RunsAscend low [] = Unit {0}
RunsAscend low (run ∷ rest) = (low ≤ run.0) × (1 ≤ run.1) × RunsAscend (run.0 + run.1) rest

-- the runs with one more, before the first that begins behind it
abbrev pub placed : ℕ × ℕ → List (ℕ × ℕ) → List (ℕ × ℕ)
placed run [] = run ∷ []
placed run (next ∷ rest) = if nat_lt next.0 run.0 then next ∷ placed run rest else (run ∷ next ∷ rest)

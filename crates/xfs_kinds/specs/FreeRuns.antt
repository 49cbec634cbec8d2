-- Sets of blocks, and the runs of free ones (chapter "AG Free Space Management").
use Rattle.std.specs.Prelude.{ℕ, zero, suc, Bool, not, ◌+◌, ◌-◌, ◌≤◌, ◌==◌, if◌then◌else◌, nat_lt, List, [], ◌∷◌}
use Rattle.std.specs.List.{list_any}
use Rattle.xfs_disk.specs.Lists.{is_in_range}
use Rattle.xfs_geom.specs.declared.records.Span.{Span}

abbrev pub span : ℕ → ℕ → Span
span start count = record { start = start; count = count }

abbrev pub span_has : ℕ → Span → Bool
span_has block s = is_in_range s.start s.count block

-- the block is in one of the runs
abbrev pub is_in_spans : List Span → ℕ → Bool
is_in_spans runs block = list_any (span_has block) runs

-- the runs ascend, and no two have a block in common; the first begins at low or behind
abbrev pub SpansAscend : ℕ → List Span → Type 0
SpansAscend low [] = Unit {0}
SpansAscend low (s ∷ rest) = (low ≤ s.start) × SpansAscend (s.start + s.count) rest

-- the runs have some blocks each and ascend, and no two touch; the first begins at low or behind
abbrev pub AreSeparate : ℕ → List Span → Type 0
AreSeparate low [] = Unit {0}
AreSeparate low (s ∷ rest) = (low ≤ s.start) × (1 ≤ s.count) × AreSeparate (s.start + s.count + 1) rest

-- the block before all of the runs: the first of them grows where it follows
abbrev pub with_free_block : ℕ → List Span → List Span
with_free_block block [] = span block 1 ∷ []
with_free_block block (s ∷ rest) = if s.start == block + 1 then span block (s.count + 1) ∷ rest else (span block 1 ∷ s ∷ rest)

-- the maximal runs of those of the n blocks from a block on that pass a test
abbrev pub runs_where : (ℕ → Bool) → ℕ → ℕ → List Span
runs_where test block zero = []
runs_where test block (suc n) = if test block then with_free_block block (runs_where test (block + 1) n) else runs_where test (block + 1) n

abbrev pub is_outside_spans : List Span → ℕ → Bool
is_outside_spans used block = not (is_in_spans used block)

-- the maximal runs of the blocks below a length that no run has
unfoldable pub free_of : List Span → ℕ → List Span
free_of used blocks = runs_where (is_outside_spans used) 0 blocks

-- the blocks from at on, before end
abbrev pub gap : ℕ → ℕ → List Span
gap at end = if nat_lt at end then span at (end - at) ∷ [] else []

-- Owned runs in order.
use Rattle.std.specs.Prelude.{ℕ, ◌+◌, ◌-◌, ◌*◌, ◌^◌, ◌≤◌, ◌<◌, ◌≡◌, List, [], ◌∷◌, ◌++◌}
use Rattle.std.specs.List.{All}
use Rattle.xfs_geom.specs.Runs.{runs_on}
use Rattle.xfs_geom.specs.Volumes.{Volume}
use Rattle.xfs_geom.specs.declared.records.Run.{Run}
use Rattle.xfs_geom.specs.declared.records.Span.{Span}
use Rattle.xfs_kinds.specs.OffsetWords.{offset_in_fork}

-- some blocks of the volume, with an owner and an offset word that eight bytes hold, at offsets that a fork can have
pub record IsOwned (v : Volume) (r : Run) : Type 0 where
  pub some : 1 ≤ r.count
  pub inside : r.start + r.count ≤ v.dblocks
  pub owner : r.owner < 2 ^ 64
  pub offset : r.offset_word < 2 ^ 64
  pub fork : offset_in_fork r.offset_word + r.count ≤ 2 ^ 54

-- some blocks, whose numbers are small
pub record IsSized (r : Run) : Type 0 where
  pub some : 1 ≤ r.count
  pub end : r.start + r.count < 2 ^ 63

-- the blocks are of one group: none that begins before the start of a group goes across it
abbrev pub IsOfOneGroup : Volume → Run → Type 0
IsOfOneGroup v r = (ag : ℕ) → r.start < ag * v.agblocks → r.start + r.count ≤ ag * v.agblocks

-- the run as AG blocks of the group that begins at a block
abbrev pub span_in : ℕ → Run → Span
span_in base r = record { start = r.start - base; count = r.count }

-- the starts of the runs ascend
abbrev pub StartsRise : ℕ → List Run → Type 0
StartsRise low [] = Unit {0}
StartsRise low (r ∷ rest) = (low ≤ r.start) × StartsRise r.start rest

-- the runs have some blocks each and ascend, and no two have a block in common; the first begins at low or behind
abbrev pub Follow : ℕ → List Run → Type 0
Follow low [] = Unit {0}
Follow low (r ∷ rest) = (low ≤ r.start) × (1 ≤ r.count) × Follow (r.start + r.count) rest

-- the block is the first that more than one run has
pub record IsFirstShared (runs : List Run) (block : ℕ) : Type 0 where
  pub shared : 1 < runs_on runs block
  pub least : (before : ℕ) → before < block → runs_on runs before ≤ 1

-- the runs before a block, and those behind it
pub record IsSplit (block : ℕ) (runs front back : List Run) : Type 0 where
  pub whole : runs ≡ front ++ back
  pub before : All (λ (r : Run). r.start + r.count ≤ block) front
  pub behind : All (λ (r : Run). block ≤ r.start) back

-- Which blocks of a volume are of some runs.
use Rattle.std.specs.Prelude.{◌≡◌, ℕ, ◌+◌, max, List, [], ◌∷◌}
use Rattle.std.specs.List.Sorted.{IsNonDecreasingBy, IsPermutation}
use Rattle.xfs_geom.specs.declared.records.Run.{Run}
use Rattle.xfs_render.specs.declared.new_blocks.Reach.{Reach}

-- where each run begins, and where the farthest of those up to it ends, if what is before them reaches up to a block
abbrev pub reaches_of : ℕ → List Run → List Reach
reaches_of far [] = []
reaches_of far (r ∷ rest) = record { start = r.start; end = max (r.start + r.count) far } ∷ reaches_of (max (r.start + r.count) far) rest

-- the same of runs in the order in which they begin
pub record AreReaches (runs : List Run) (reaches : List Reach) : Type 0 where
  pub sorted : List Run
  pub same : IsPermutation runs sorted
  pub ascend : IsNonDecreasingBy (λ (r : Run). r.start) sorted
  pub is : reaches ≡ reaches_of 0 sorted

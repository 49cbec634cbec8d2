-- Blocks that are written in place.
use Rattle.std.specs.Prelude.{◌≡◌, ℕ, true, ◌⊎◌, List, map}
use Rattle.xfs_geom.specs.Volumes.{Volume}
use Rattle.xfs_place.specs.Pool.{is_taken}
use Rattle.xfs_render.specs.Rendering.{is_head}
use Rattle.xfs_salvage.specs.Kept.{run_of_cluster}
use Rattle.xfs_rename.specs.xfs_made.Unused.{IsOfLog}

-- the block is the first of a group, one of these clusters, or one of the log
abbrev pub IsInPlace : Volume → List ℕ → ℕ → Type 0
IsInPlace v clusters block = ((is_head v block ≡ true) ⊎ (is_taken (map run_of_cluster clusters) block ≡ true)) ⊎ IsOfLog v block

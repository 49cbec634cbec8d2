-- Blocks that something new may stand on, heads of groups, and blocks of the log.
use Rattle.std.specs.Prelude.{◌≡◌, ℕ, true, false, ◌+◌, ◌≤◌, ◌<◌, ◌⊎◌, List, ◌++◌}
use Rattle.std.specs.List.{All}
use Rattle.xfs_geom.specs.Conversions.{is_fixed}
use Rattle.xfs_geom.specs.Volumes.{Volume}
use Rattle.xfs_geom.specs.declared.records.Run.{Run}
use Rattle.xfs_place.specs.Pool.{is_listed, is_taken}
use Rattle.xfs_place.specs.Wanted.{kept_runs}
use Rattle.xfs_place.specs.declared.placed.Placed.{Placed}
use Rattle.xfs_place.specs.declared.wanted.Wanted.{Wanted}
use Rattle.xfs_render.specs.Plans.{IsOnce}
use Rattle.xfs_render.specs.Rendering.{is_head, volume}

-- the block has no fixed use, none of the runs has it, and it is not reserved
pub record IsUnusedBlock (v : Volume) (kept : List Run) (reserved : List ℕ) (block : ℕ) : Type 0 where
  pub unfixed : is_fixed v block ≡ false
  pub untaken : is_taken kept block ≡ false
  pub unreserved : is_listed reserved block ≡ false

-- the block is one of the log
pub record IsOfLog (v : Volume) (block : ℕ) : Type 0 where
  pub from : v.log ≤ block
  pub below : block < v.log + v.logblocks

-- the block is the first of a group, or one of a run that is kept
abbrev pub IsHeadOrKept : Volume → List Run → ℕ → Type 0
IsHeadOrKept v kept block = (is_head v block ≡ true) ⊎ (is_taken kept block ≡ true)

-- no place stands twice, and each is such a block
pub record AreHeadsOrKept (v : Volume) (kept : List Run) (places : List ℕ) : Type 0 where
  pub once : IsOnce places
  pub each : All (IsHeadOrKept v kept) places

-- nothing had the block before, or it is of a new chunk or of an object
abbrev pub IsFreshFor : Wanted → Placed → ℕ → Type 0
IsFreshFor w p block = IsUnusedBlock (volume w) (kept_runs w) w.reserved block ⊎ (is_taken (w.new ++ p.runs) block ≡ true)

-- What a stop of the machine leaves while planned blocks are written.
use Rattle.std.specs.Prelude.{◌≡◌, ℕ, ◌⊎◌, List, Some, slice_get}
use Rattle.std.specs.List.{Contains}
use Rattle.xfs_disk.specs.Blocks.{Image}
use Rattle.xfs_writing.specs.Writing.{Writes, written}

-- a stop that may leave these values leaves just the image
abbrev pub LeavesJust : (ℕ → List ℕ → Type 0) → Image → Type 0
LeavesJust may_leave image = (b : ℕ) (v : List ℕ) → may_leave b v → slice_get image b ≡ Some v

-- a value of a block that is that of the image, or one of those planned for it
abbrev pub IsOldOrDue : Writes → Image → ℕ → List ℕ → Type 0
IsOldOrDue writes image b v = (slice_get image b ≡ Some v) ⊎ Contains writes (b, v)

-- each block is that of the image, or one of those planned for it
pub record IsMixed (writes : Writes) (image stopped : Image) : Type 0 where
  pub each : (b : ℕ) (v : List ℕ) → slice_get stopped b ≡ Some v → IsOldOrDue writes image b v

-- Blocks of the first part are written in part and none of the last; or all of the first part are, and of the last some. So no
-- block of the last part is new while one of the first is old.
abbrev pub IsStopped : Writes → Writes → Image → Image → Type 0
IsStopped first last image stopped = IsMixed first image stopped ⊎ IsMixed last (written first image) stopped

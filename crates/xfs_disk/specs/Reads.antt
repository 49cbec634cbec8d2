-- Disks that are only read.
use Rattle.std.specs.Prelude.{◌≡◌, ℕ, Option, List}
use Rattle.xfs_disk.specs.Blocks.{Image}
use Rattle.xfs_disk.specs.Stops.{GoesOn}

-- A disk that was only read: nothing was written, its contents and its count of failed writes are as before, a stop leaves no more now
-- than before, and no stop since an earlier moment leaves what it could not have left before.
pub record OnlyReads {D : Type 0} (size : D → ℕ) (holds : D → Option Image) (write_faults writes : D → ℕ) (tells_stops : D → Type 0)
    (moment : D → ℕ) (may_leave : D → ℕ → List ℕ → Type 0) (left_since : D → ℕ → Image → Type 0) (old new : D) : Type 0 where
  pub same_size : size new ≡ size old
  pub same_contents : holds new ≡ holds old
  pub same_write_faults : write_faults new ≡ write_faults old
  pub same_writes : writes new ≡ writes old
  pub tells : tells_stops old → tells_stops new
  pub leaves : tells_stops old → (b : ℕ) (v : List ℕ) → may_leave new b v → may_leave old b v
  pub past : tells_stops old → GoesOn (moment old) (moment new) (left_since old) (left_since new)

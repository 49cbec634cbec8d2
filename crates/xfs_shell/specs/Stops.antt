-- What a stop of the machine leaves at any moment of a session.
use Rattle.std.specs.Prelude.{◌≡◌, ℕ, ◌+◌, ◌≤◌, ◌⊎◌, List, Option, Some, slice_get}
use Rattle.xfs_disk.specs.Blocks.{Image}
use Rattle.xfs_geom.specs.Volumes.{Volume}
use Rattle.xfs_shell.specs.Running.{shelled_first}
use Rattle.xfs_shell.specs.Steps.{IsDurable}
use Rattle.xfs_shell.specs.declared.session.Leave.{Leave}

-- each block of what was left is that of one image or that of another
pub record IsEither (image next left : Image) : Type 0 where
  pub each : (b : ℕ) (v : List ℕ) → slice_get left b ≡ Some v → (slice_get image b ≡ Some v) ⊎ (slice_get next b ≡ Some v)

-- Time went on over a disk of which a stop leaves just what it holds, an image: a stop since an earlier moment leaves what it might have
-- left before, or blocks of the image and of the next one.
pub record Passes {D : Type 0} (holds : D → Option Image) (tells_stops : D → Type 0) (moment : D → ℕ) (may_leave : D → ℕ → List ℕ → Type 0)
    (left_since : D → ℕ → Image → Type 0) (image next : Image) (old new : D) : Type 0 where
  pub later : tells_stops old → moment old ≤ moment new
  pub leaves : tells_stops old → IsDurable holds may_leave old → (t : ℕ) (left : Image) → t ≤ moment old → left_since new t left
      → left_since old t left ⊎ IsEither image next left

-- blocks of the image behind the first so many lines, and of that behind the next one
abbrev pub IsBetween : Volume → Leave → List (List ℕ) → Image → Image → Type 0
IsBetween v leave lines image left =
    (k : ℕ) × IsEither (shelled_first v leave lines image k).image (shelled_first v leave lines image (k + 1)).image left

-- time went on while lines were run
pub record HasPassed {D : Type 0} (holds : D → Option Image) (tells_stops : D → Type 0) (moment : D → ℕ) (may_leave : D → ℕ → List ℕ → Type 0)
    (left_since : D → ℕ → Image → Type 0) (v : Volume) (leave : Leave) (lines : List (List ℕ)) (image : Image) (old new : D) : Type 0 where
  pub later : tells_stops old → moment old ≤ moment new
  pub leaves : tells_stops old → IsDurable holds may_leave old → (t : ℕ) (left : Image) → t ≤ moment old → left_since new t left
      → left_since old t left ⊎ IsBetween v leave lines image left

-- A stop at any moment of a session leaves the image behind some of its lines, but maybe for the block that the next one writes, where a
-- stop at its start left just what the disk held.
pub record StopsBetween {D : Type 0} (holds : D → Option Image) (tells_stops : D → Type 0) (moment : D → ℕ) (may_leave : D → ℕ → List ℕ → Type 0)
    (left_since : D → ℕ → Image → Type 0) (v : Volume) (leave : Leave) (lines : List (List ℕ)) (image : Image) (old new : D) : Type 0 where
  pub each : tells_stops old → IsDurable holds may_leave old → (left : Image) → left_since new (moment old) left → IsBetween v leave lines image left

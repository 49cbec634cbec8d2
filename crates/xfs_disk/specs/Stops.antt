-- What a stop of the machine may leave on a disk, block by block.
use Rattle.std.specs.Prelude.{◌≡◌, ℕ, ◌≤◌, ◌⊎◌, List, Some, slice_get}
use Rattle.xfs_disk.specs.Blocks.{Image}

-- each block of the image has one of the values that are allowed for it
abbrev pub EachOf : (ℕ → List ℕ → Type 0) → Image → Type 0
EachOf values image = (b : ℕ) (v : List ℕ) → slice_get image b ≡ Some v → values b v

-- Time goes on: a stop since t might have left what it might have left before, or what it may leave now.
pub record Elapses (before now : ℕ) (past since : ℕ → Image → Type 0) (may_leave : Image → Type 0) : Type 0 where
  pub later : before ≤ now
  pub nothing_else : (t : ℕ) (image : Image) → t ≤ before → since t image → past t image ⊎ may_leave image
  pub keeps : (t : ℕ) (image : Image) → t ≤ before → past t image → since t image

-- Time goes on while nothing is written: a stop since t might have left just what it might have left before.
pub record GoesOn (before now : ℕ) (past since : ℕ → Image → Type 0) : Type 0 where
  pub later : before ≤ now
  pub nothing_new : (t : ℕ) (image : Image) → t ≤ before → since t image → past t image
  pub keeps : (t : ℕ) (image : Image) → t ≤ before → past t image → since t image

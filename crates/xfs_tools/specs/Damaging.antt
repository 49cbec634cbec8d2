-- What becomes of a volume with generated files: the root of the inode tree of its first group is written as zeros (mkfs.xfs(8)).
use Rattle.std.specs.Prelude.{◌≡◌, ℕ, ◌<◌, ◌≤◌, ◌⊎◌, List, [], ◌∷◌, replicate, Option, Some, Result, Ok, Err}
use Rattle.std.specs.Option.{ForSome}
use Rattle.xfs_disk.specs.Blocks.{Image}
use Rattle.xfs_disk.specs.Counts.{raised_times}
use Rattle.xfs_disk.specs.Faults.{Rose}
use Rattle.xfs_disk.specs.Reads.{OnlyReads}
use Rattle.xfs_disk.specs.declared.failed.Failed.{Failed}
use Rattle.xfs_mkfs.specs.Roots.{inode_root}
use Rattle.xfs_writing.specs.Stopped.{IsStopped, LeavesJust}
use Rattle.xfs_writing.specs.Writing.{IsPartly, Writes, written}
use Rattle.xfs_tools.specs.declared.answer.Answer.{Answer}
use Rattle.xfs_tools.specs.declared.answer.Answer.TheVariants as answer
use Rattle.xfs_tools.specs.declared.damaging.DamageFault.{DamageFault}
use Rattle.xfs_tools.specs.declared.damaging.DamageFault.TheVariants.{ReadFault, WriteFault, NoMemory}

-- a block that is one of so many, or none
abbrev pub IsWithin : ℕ → ℕ → Result ℕ Failed → Type 0
IsWithin root blocks (Ok place) = (place ≡ root) × (root < blocks)
IsWithin root blocks (Err failed) = blocks ≤ root

-- what is written: zeros in a block
abbrev pub zeros_at : ℕ → Writes
zeros_at place = (place, replicate 4096 0) ∷ []

-- The block was written as zeros and is kept: that of the root, where the disk tells what it holds, and no other.
pub record IsDamaged {D : Type 0} (holds : D → Option Image) (size writes : D → ℕ) (tells_stops : D → Type 0) (may_leave : D → ℕ → List ℕ → Type 0)
    (old new : D) (place : ℕ) : Type 0 where
  pub inside : place < size old
  pub root : ForSome (holds old) (λ image. place ≡ inode_root image)
  pub held : ForSome (holds old) (λ image. holds new ≡ Some (written (zeros_at place) image))
  pub counted : writes new ≡ raised_times 1 (writes old)
  pub kept : tells_stops old → ForSome (holds new) (LeavesJust (may_leave new))

-- Nothing was written, since block 0 could not be read, or since what was read states a root outside the disk. The count of failed reads is
-- told.
pub record IsUnread {D : Type 0} (holds : D → Option Image) (size faults : D → ℕ) (reads_only : Type 0) (old new : D) (told : ℕ) : Type 0 where
  pub cause : Rose (faults old) (faults new) ⊎ ForSome (holds old) (λ image. size old ≤ inode_root image)
  pub count : told ≡ faults new
  pub unwritten : reads_only

-- A write or a sync failed: the block is old or new, and it was written or not, as is told.
pub record IsUnkept {D : Type 0} (holds : D → Option Image) (write_faults writes : D → ℕ) (old new : D) (blocks : ℕ) : Type 0 where
  pub cause : Rose (write_faults old) (write_faults new)
  pub partly : ForSome (holds old) (λ image. IsPartly (zeros_at (inode_root image)) image blocks (holds new))
  pub most : blocks ≤ 1
  pub counted : writes new ≡ raised_times blocks (writes old)

-- what came of it
abbrev pub DamageEnds : {D : Type 0} → (D → Option Image) → (D → ℕ) → (D → ℕ) → (D → ℕ) → (D → ℕ) → (D → Type 0) → (D → ℕ) → (D → ℕ → List ℕ → Type 0)
    → (D → ℕ → Image → Type 0) → D → D → Result ℕ DamageFault → Type 0
DamageEnds holds size faults write_faults writes tells_stops moment may_leave left_since old new (Ok place) = IsDamaged holds size writes tells_stops may_leave old new place
DamageEnds holds size faults write_faults writes tells_stops moment may_leave left_since old new (Err (ReadFault told)) =
    IsUnread holds size faults (OnlyReads size holds write_faults writes tells_stops moment may_leave left_since old new) old new told
DamageEnds holds size faults write_faults writes tells_stops moment may_leave left_since old new (Err (WriteFault blocks)) =
    IsUnkept holds write_faults writes old new blocks
DamageEnds holds size faults write_faults writes tells_stops moment may_leave left_since old new (Err NoMemory) =
    OnlyReads size holds write_faults writes tells_stops moment may_leave left_since old new

-- The same, and what a stop since then may leave beside what it might have left before: the block old or new.
pub record IsDamaging {D : Type 0} (holds : D → Option Image) (size faults write_faults writes : D → ℕ) (tells_stops : D → Type 0) (moment : D → ℕ)
    (may_leave : D → ℕ → List ℕ → Type 0) (left_since : D → ℕ → Image → Type 0) (old new : D) (result : Result ℕ DamageFault) : Type 0 where
  pub ends : DamageEnds holds size faults write_faults writes tells_stops moment may_leave left_since old new result
  pub stops : tells_stops old → ForSome (holds old) (λ image. (t : ℕ) (stopped : Image) → t ≤ moment old → left_since new t stopped
      → left_since old t stopped ⊎ IsStopped [] (zeros_at (inode_root image)) image stopped)
  pub tells : tells_stops old → tells_stops new
  pub later : tells_stops old → moment old ≤ moment new

-- the answer where the block was not written, or not kept
abbrev pub damage_answer : DamageFault → Answer
damage_answer (ReadFault told) = answer.ReadFault told
damage_answer (WriteFault blocks) = answer.WriteFault blocks
damage_answer NoMemory = answer.NoMemory

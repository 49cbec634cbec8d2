-- What a stop of the machine leaves while a volume is made, and once it is.
use Rattle.std.specs.Prelude.{◌≡◌, ℕ, ◌≤◌, ◌⊎◌, List, Option, Some, slice_get}
use Rattle.std.specs.Option.{ForSome}
use Rattle.xfs_disk.specs.Blocks.{Image}
use Rattle.xfs_disk.specs.Files.{Files}
use Rattle.xfs_disk.specs.declared.stamp.Stamp.{Stamp}
use Rattle.xfs_options.specs.declared.make_words.MakeOptions.{MakeOptions}
use Rattle.xfs_render.specs.declared.plan.Plan.{Plan}
use Rattle.xfs_writing.specs.Stopped.{LeavesJust}
use Rattle.xfs_writing.specs.Writing.{written}
use Rattle.xfs_mkfs.specs.Order.{all_writes}
use Rattle.xfs_mkfs.specs.Outcome.{IsPlanOf}
use Rattle.xfs_mkfs.specs.Putting.{IsPutStopped}
use Rattle.xfs_mkfs.specs.declared.outcome.MakeOutcome.{MakeOutcome}
use Rattle.xfs_mkfs.specs.declared.outcome.MakeOutcome.TheVariants as Out

-- a volume that was made is kept: a stop leaves just what the disk holds
abbrev pub IsDurableMake : Type 0 → Option Image → (ℕ → List ℕ → Type 0) → MakeOutcome → Type 0
IsDurableMake tells now may_leave (Out.Made summary) = tells → ForSome now (LeavesJust may_leave)
IsDurableMake tells now may_leave outcome = Unit {0}

-- block 0 is as it was, or all other blocks are as they are due
abbrev pub HasPrimaryLast : Image → Image → Image → Type 0
HasPrimaryLast image due stopped = ((v : List ℕ) → slice_get stopped 0 ≡ Some v → slice_get image 0 ≡ Some v)
    ⊎ ((b : ℕ) (v : List ℕ) → 1 ≤ b → slice_get stopped b ≡ Some v → slice_get due b ≡ Some v)

-- a stop leaves blocks of the plan of the volume, and block 0 as it was until all others are written
pub record IsMadeStopped (o : MakeOptions) (s : Stamp) (told : Option Files) (blocks : ℕ) (image stopped : Image) : Type 0 where
  pub plan : Plan
  pub due : IsPlanOf o s told blocks plan
  pub put : IsPutStopped plan image stopped
  pub block_0 : HasPrimaryLast image (written (all_writes plan put.rows) image) stopped

-- what a stop leaves of what was written: nothing was, unless the volume was made or a write or a sync failed
abbrev pub StopLeaves : MakeOptions → Stamp → Option Files → ℕ → Image → Image → MakeOutcome → Type 0
StopLeaves o s told blocks image stopped (Out.Made summary) = IsMadeStopped o s told blocks image stopped
StopLeaves o s told blocks image stopped (Out.WriteFault n) = IsMadeStopped o s told blocks image stopped
StopLeaves o s told blocks image stopped outcome = ⊥

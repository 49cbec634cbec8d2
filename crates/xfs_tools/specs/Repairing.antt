-- What a call of xfs_repair answers and leaves (xfs_repair(8)).
use Rattle.std.specs.Prelude.{◌≡◌, ℕ, ◌≤◌, ◌⊎◌, Bool, true, List, Option}
use Rattle.std.specs.Option.{ForSome}
use Rattle.xfs_disk.specs.Counts.{raised_times}
use Rattle.xfs_disk.specs.Blocks.{Image}
use Rattle.xfs_disk.specs.Reads.{OnlyReads}
use Rattle.xfs_disk.specs.declared.stamp.Stamp.{Stamp}
use Rattle.xfs_mend.specs.Asked.{Asked, repair_asked}
use Rattle.xfs_mend.specs.Due as mend
use Rattle.xfs_mend.specs.Outcome as mended
use Rattle.xfs_mend.specs.declared.outcome.Outcome.{Outcome}
use Rattle.xfs_tools.specs.Answers.{answer_of}
use Rattle.xfs_tools.specs.CommandLine.{options_of_words}
use Rattle.xfs_tools.specs.declared.answer.Answer.{Answer}
use Rattle.xfs_tools.specs.declared.answer.Answer.TheVariants.{Usage}
use Rattle.xfs_tools.specs.declared.command_line.Call.{Call}
use Rattle.xfs_tools.specs.declared.command_line.Call.TheVariants.{Repair, Refused}

-- A repair of what a disk held came to this outcome. Whatever the disk tells: a fault only where its count rose, just so many blocks
-- written as the outcome says, and after every outcome but a repair and a write fault the disk was only read. Of a disk that tells what it
-- holds, also that the outcome is due to the image and what it leaves; of one that tells its stops, also what a stop may leave.
pub record IsRepair {D : Type 0} (holds : D → Option Image) (size faults write_faults writes : D → ℕ) (tells_stops : D → Type 0)
    (moment : D → ℕ) (may_leave : D → ℕ → List ℕ → Type 0) (left_since : D → ℕ → Image → Type 0) (s : Stamp) (old new : D) (o : Asked) (outcome : Outcome) : Type 0 where
  pub due : ForSome (holds old) (λ image. mend.IsDueRepair o s image outcome)
  pub possible : mend.CanCome o outcome
  pub cause : mended.IsRepairCause (faults old) (faults new) (write_faults old) (write_faults new) outcome
  pub leaves : ForSome (holds old) (λ image. mended.RepairLeaves s image (holds new) outcome)
  pub counted : writes new ≡ raised_times (mended.blocks_told outcome) (writes old)
  pub only_read : mended.is_quiet outcome ≡ true → OnlyReads size holds write_faults writes tells_stops moment may_leave left_since old new
  pub kept : mended.IsDurableRepair (tells_stops old) (holds new) (may_leave new) outcome
  pub stops : tells_stops old → ForSome (holds old) (λ image. (t : ℕ) (stopped : Image) → t ≤ moment old → left_since new t stopped
      → left_since old t stopped ⊎ mended.StopsBy s image outcome stopped)

-- The words were refused, and the disk is the same; or the repair that they ask for was run, and the answer is that of its outcome.
abbrev pub IsRepairing : Call → Type 0 → (Asked → Outcome → Type 0) → Answer → Type 0
IsRepairing (Repair o) same done answer = (outcome : Outcome) × (answer ≡ answer_of outcome) × done (repair_asked (options_of_words o)) outcome
IsRepairing (Refused word) same done answer = (answer ≡ Usage word) × same

-- the volume is not to be written: it is only checked, or the words are refused
abbrev pub only_checks : Call → Bool
only_checks (Repair o) = o.check
only_checks (Refused word) = true

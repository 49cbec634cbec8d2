-- What the parts of a repair say of a disk beside its contents.
use Rattle.std.specs.Prelude.{◌≡◌, ℕ, ◌≤◌, true, List, Option}
use Rattle.xfs_disk.specs.Counts.{raised_times}
use Rattle.xfs_disk.specs.Blocks.{Image}
use Rattle.xfs_disk.specs.Reads.{OnlyReads}
use Rattle.xfs_mend.specs.Outcome.{IsRepairCause, IsDurableRepair, blocks_told, is_quiet}
use Rattle.xfs_mend.specs.declared.outcome.Outcome.{Outcome}

-- a part of a repair ended so
pub record Ends {D : Type 0} (size : D → ℕ) (holds : D → Option Image) (faults write_faults writes : D → ℕ) (tells_stops : D → Type 0)
    (moment : D → ℕ) (may_leave : D → ℕ → List ℕ → Type 0) (left_since : D → ℕ → Image → Type 0) (old new : D) (outcome : Outcome) : Type 0 where
  pub cause : IsRepairCause (faults old) (faults new) (write_faults old) (write_faults new) outcome
  pub kept : IsDurableRepair (tells_stops old) (holds new) (may_leave new) outcome
  pub counted : writes new ≡ raised_times (blocks_told outcome) (writes old)
  pub only_read : is_quiet outcome ≡ true → OnlyReads size holds write_faults writes tells_stops moment may_leave left_since old new
  pub same_size : size new ≡ size old
  pub more_faults : faults old ≤ faults new
  pub more_write_faults : write_faults old ≤ write_faults new
  pub tells : tells_stops old → tells_stops new
  pub later : tells_stops old → moment old ≤ moment new

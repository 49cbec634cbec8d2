-- A volume that was looked at, and then repaired.
use Rattle.std.proofs.Common.{◌≡◌, ℕ, ◌≤◌, ◌⊎◌, inl, inr, List, Option, true, false, ap, refl, subst, sym, ◌∙◌, arith}
use Rattle.xfs_disk.specs.Blocks.{Image}
use Rattle.xfs_disk.specs.Counts.{raised_times}
use Rattle.xfs_disk.specs.Reads.{OnlyReads}
use Rattle.xfs_disk.specs.declared.stamp.Stamp.{Stamp}
use Rattle.xfs_disk.proofs.Reading.{reads_on}
use Rattle.xfs_mend.specs.Asked.{Asked}
use Rattle.xfs_mend.specs.Outcome.{IsDurableRepair, IsRepairCause, StopsBy, blocks_told}
use Rattle.xfs_mend.specs.declared.outcome.Outcome.{Outcome}
use Rattle.xfs_mend.specs.declared.outcome.Outcome.TheVariants.{NoGeometry, Unsupported, DirtyLog, TooLarge, UnsupportedFile, Clean, Damaged, Repaired, NoRoom, ReadFault, WriteFault, NoMemory}
use Rattle.xfs_tools.specs.Repairing.{IsRepair}

-- a cause after an earlier moment
cause_behind : (a b c wa wb wc : ℕ) (outcome : Outcome) → a ≤ b → wb ≡ wa → IsRepairCause b c wb wc outcome → IsRepairCause a c wa wc outcome
cause_behind a b c wa wb wc (ReadFault told) less same cause = let up = cause.0.0 in let rose = cause.0.1 in ((omega (arith, less, up), omega (arith, less, up, rose)), cause.1)
cause_behind a b c wa wb wc (WriteFault blocks) less same cause = rw (← same) cause
cause_behind a b c wa wb wc NoGeometry less same cause = tt
cause_behind a b c wa wb wc (Unsupported word bits) less same cause = tt
cause_behind a b c wa wb wc DirtyLog less same cause = tt
cause_behind a b c wa wb wc (TooLarge what count) less same cause = tt
cause_behind a b c wa wb wc (UnsupportedFile ino what) less same cause = tt
cause_behind a b c wa wb wc Clean less same cause = tt
cause_behind a b c wa wb wc (Damaged finding) less same cause = tt
cause_behind a b c wa wb wc (Repaired summary) less same cause = tt
cause_behind a b c wa wb wc (NoRoom what) less same cause = tt
cause_behind a b c wa wb wc NoMemory less same cause = tt

-- a repair is kept, also as seen from an earlier moment
kept_behind : (earlier tells : Type 0) (now : Option Image) (may_leave : ℕ → List ℕ → Type 0) (outcome : Outcome) → (earlier → tells)
    → IsDurableRepair tells now may_leave outcome → IsDurableRepair earlier now may_leave outcome
kept_behind earlier tells now may_leave (Repaired summary) on kept = λ t. kept (on t)
kept_behind earlier tells now may_leave NoGeometry on kept = tt
kept_behind earlier tells now may_leave (Unsupported word bits) on kept = tt
kept_behind earlier tells now may_leave DirtyLog on kept = tt
kept_behind earlier tells now may_leave (TooLarge what count) on kept = tt
kept_behind earlier tells now may_leave (UnsupportedFile ino what) on kept = tt
kept_behind earlier tells now may_leave Clean on kept = tt
kept_behind earlier tells now may_leave (Damaged finding) on kept = tt
kept_behind earlier tells now may_leave (NoRoom what) on kept = tt
kept_behind earlier tells now may_leave (ReadFault faults) on kept = tt
kept_behind earlier tells now may_leave (WriteFault blocks) on kept = tt
kept_behind earlier tells now may_leave NoMemory on kept = tt

earlier_left : (A B C : Type 0) → (A → C) → A ⊎ B → C ⊎ B
earlier_left A B C f (inl a) = inl (f a)
earlier_left A B C f (inr b) = inr b

module _ {D : Type 0} (holds : D → Option Image) (size faults write_faults writes : D → ℕ) (tells_stops : D → Type 0)
    (moment : D → ℕ) (may_leave : D → ℕ → List ℕ → Type 0) (left_since : D → ℕ → Image → Type 0) where
  -- a repair of a disk that was only read before is a repair of what it was
  pub repair_behind : (s : Stamp) (old mid new : D) (o : Asked) (outcome : Outcome) → OnlyReads size holds write_faults writes tells_stops moment may_leave left_since old mid
      → faults old ≤ faults mid → IsRepair holds size faults write_faults writes tells_stops moment may_leave left_since s mid new o outcome
      → IsRepair holds size faults write_faults writes tells_stops moment may_leave left_since s old new o outcome
  repair_behind s old mid new o outcome read less done = record {
    due = λ image told. done.due image (read.same_contents ∙ told);
    possible = done.possible;
    cause = cause_behind (faults old) (faults mid) (faults new) (write_faults old) (write_faults mid) (write_faults new) outcome less read.same_write_faults done.cause;
    leaves = λ image told. done.leaves image (read.same_contents ∙ told);
    counted = done.counted ∙ ap (raised_times (blocks_told outcome)) read.same_writes;
    only_read = λ quiet. reads_on size holds write_faults writes tells_stops moment may_leave left_since old mid new read (done.only_read quiet);
    kept = kept_behind (tells_stops old) (tells_stops mid) (holds new) (may_leave new) outcome read.tells done.kept;
    stops = λ tells image told t stopped early left.
        let past = read.past tells in
        earlier_left (left_since mid t stopped) (StopsBy s image outcome stopped) (left_since old t stopped)
        (λ was. past.nothing_new t stopped early was)
        (done.stops (read.tells tells) image (read.same_contents ∙ told) t stopped (omega (arith, early, past.later)) left);
  }

-- How the parts of a repair end, and what that says of the whole.
use Rattle.std.proofs.Common.{◌≡◌, ℕ, ◌≤◌, ◌⊎◌, inl, inr, Bool, true, false, List, Option, refl, ap, sym, ◌∙◌, arith}
use Rattle.xfs_disk.specs.Counts.{raised_times}
use Rattle.xfs_disk.specs.Blocks.{Image}
use Rattle.xfs_disk.specs.Reads.{OnlyReads}
use Rattle.xfs_disk.proofs.Reading.{reads_on}
use Rattle.xfs_mend.proofs.Accepted.{caused_before, kept_before}
use Rattle.xfs_mend.specs.Asked.{Asked}
use Rattle.xfs_mend.specs.Due.{CanCome}
use Rattle.xfs_mend.specs.Private.Ending.{Ends}
use Rattle.xfs_mend.specs.Outcome.{IsRepairCause, IsDurableRepair, blocks_told, is_quiet}
use Rattle.xfs_mend.specs.declared.outcome.Outcome.{Outcome}
use Rattle.xfs_mend.specs.declared.outcome.Outcome.TheVariants.{NoGeometry, Unsupported, DirtyLog, TooLarge, UnsupportedFile, Clean, Damaged, Repaired, NoRoom, ReadFault, WriteFault, NoMemory}
use Rattle.xfs_mend.specs.declared.outcome.Summary.TheVariants.{Backups, Rebuilt}

-- where nothing was written nothing is kept or told
kept_quiet : (tells : Type 0) (now : Option Image) (may_leave : ℕ → List ℕ → Type 0) (a : Outcome) → is_quiet a ≡ true → IsDurableRepair tells now may_leave a
kept_quiet tells now may_leave (Repaired summary) quiet = cc
kept_quiet tells now may_leave (WriteFault blocks) quiet = cc
kept_quiet tells now may_leave NoGeometry quiet = tt
kept_quiet tells now may_leave (Unsupported word bits) quiet = tt
kept_quiet tells now may_leave DirtyLog quiet = tt
kept_quiet tells now may_leave (TooLarge what count) quiet = tt
kept_quiet tells now may_leave (UnsupportedFile ino what) quiet = tt
kept_quiet tells now may_leave Clean quiet = tt
kept_quiet tells now may_leave (Damaged finding) quiet = tt
kept_quiet tells now may_leave (NoRoom what) quiet = tt
kept_quiet tells now may_leave (ReadFault faults) quiet = tt
kept_quiet tells now may_leave NoMemory quiet = tt

told_quiet : (a : Outcome) → is_quiet a ≡ true → blocks_told a ≡ 0
told_quiet (Repaired (Backups count)) quiet = cc
told_quiet (Repaired (Rebuilt blocks kept cleared orphans)) quiet = cc
told_quiet (WriteFault blocks) quiet = cc
told_quiet NoGeometry quiet = refl
told_quiet (Unsupported word bits) quiet = refl
told_quiet DirtyLog quiet = refl
told_quiet (TooLarge what count) quiet = refl
told_quiet (UnsupportedFile ino what) quiet = refl
told_quiet Clean quiet = refl
told_quiet (Damaged finding) quiet = refl
told_quiet (NoRoom what) quiet = refl
told_quiet (ReadFault faults) quiet = refl
told_quiet NoMemory quiet = refl

not_both : (check : Bool) → check ≡ true → check ≡ false → true ≡ false
not_both check holds fails = sym holds ∙ fails

-- what comes of a check says that nothing was written
pub check_quiet : (o : Asked) (a : Outcome) → o.check ≡ true → CanCome o a → is_quiet a ≡ true
check_quiet o (Repaired (Backups count)) checks comes = sym (not_both o.check checks comes)
check_quiet o (Repaired (Rebuilt blocks kept cleared orphans)) checks comes = sym (not_both o.check checks comes)
check_quiet o (WriteFault blocks) checks comes = sym (not_both o.check checks comes)
check_quiet o NoGeometry checks comes = refl
check_quiet o (Unsupported word bits) checks comes = refl
check_quiet o DirtyLog checks comes = refl
check_quiet o (TooLarge what count) checks comes = refl
check_quiet o (UnsupportedFile ino what) checks comes = refl
check_quiet o Clean checks comes = refl
check_quiet o (Damaged finding) checks comes = refl
check_quiet o (NoRoom what) checks comes = refl
check_quiet o (ReadFault faults) checks comes = refl
check_quiet o NoMemory checks comes = refl

module _ {D : Type 0} (size : D → ℕ) (holds : D → Option Image) (faults write_faults writes : D → ℕ) (tells_stops : D → Type 0)
    (moment : D → ℕ) (may_leave : D → ℕ → List ℕ → Type 0) (left_since : D → ℕ → Image → Type 0) where
  -- a disk that was only read
  pub ends_read : (a b : D) (outcome : Outcome) → OnlyReads size holds write_faults writes tells_stops moment may_leave left_since a b
      → faults a ≤ faults b → is_quiet outcome ≡ true → IsRepairCause (faults a) (faults b) (write_faults a) (write_faults b) outcome
      → Ends size holds faults write_faults writes tells_stops moment may_leave left_since a b outcome
  ends_read a b outcome disk up quiet cause = record {
    cause = cause;
    kept = kept_quiet (tells_stops a) (holds b) (may_leave b) outcome quiet;
    counted = disk.same_writes ∙ sym (ap (λ (n : ℕ). raised_times n (writes a)) (told_quiet outcome quiet));
    only_read = λ says. disk;
    same_size = disk.same_size;
    more_faults = up;
    more_write_faults = omega (arith, disk.same_write_faults);
    tells = disk.tells;
    later = λ tells. let time = disk.past tells in time.later;
  }

  -- a part behind reads
  pub ends_behind : (a b c : D) (outcome : Outcome) → OnlyReads size holds write_faults writes tells_stops moment may_leave left_since a b
      → faults a ≤ faults b → Ends size holds faults write_faults writes tells_stops moment may_leave left_since b c outcome
      → Ends size holds faults write_faults writes tells_stops moment may_leave left_since a c outcome
  ends_behind a b c outcome disk up part = record {
    cause = caused_before (faults a) (faults b) (faults c) (write_faults a) (write_faults b) (write_faults c) outcome up (omega (arith, disk.same_write_faults)) part.cause;
    kept = kept_before (tells_stops a) (tells_stops b) (holds c) (may_leave c) outcome disk.tells part.kept;
    counted = part.counted ∙ ap (λ (n : ℕ). raised_times (blocks_told outcome) n) disk.same_writes;
    only_read = λ says. reads_on size holds write_faults writes tells_stops moment may_leave left_since a b c disk (part.only_read says);
    same_size = part.same_size ∙ disk.same_size;
    more_faults = omega (arith, up, part.more_faults);
    more_write_faults = omega (arith, disk.same_write_faults, part.more_write_faults);
    tells = λ tells. part.tells (disk.tells tells);
    later = λ tells. let time = disk.past tells in let more = part.later (disk.tells tells) in omega (arith, time.later, more);
  }

  -- what a stop leaves of a disk that was only read, and of one that was read before
  pub stops_read : (a b : D) (t : ℕ) (stopped : Image) (P : Type 0) → OnlyReads size holds write_faults writes tells_stops moment may_leave left_since a b
      → tells_stops a → t ≤ moment a → left_since b t stopped → left_since a t stopped ⊎ P
  stops_read a b t stopped P disk tells low left = let time = disk.past tells in inl (time.nothing_new t stopped low left)

  pub stops_behind : (a b c : D) (t : ℕ) (stopped : Image) (P : Type 0) → OnlyReads size holds write_faults writes tells_stops moment may_leave left_since a b
      → tells_stops a → t ≤ moment a → (t ≤ moment b → left_since c t stopped → left_since b t stopped ⊎ P) → left_since c t stopped → left_since a t stopped ⊎ P
  stops_behind a b c t stopped P disk tells low part left =
      let time = disk.past tells in
      either (part (omega (arith, low, time.later)) left)
    where
      either : left_since b t stopped ⊎ P → left_since a t stopped ⊎ P
      either (inl was) = let time = disk.past tells in inl (time.nothing_new t stopped low was)
      either (inr is) = inr is

-- Where a volume is only checked nothing is written.
use Rattle.std.proofs.Common.{◌≡◌, Bool, true, false, refl, sym, ◌∙◌}
use Rattle.xfs_mend.specs.Asked.{Asked}
use Rattle.xfs_mend.specs.Due.{CanCome}
use Rattle.xfs_mend.specs.Outcome.{is_quiet}
use Rattle.xfs_mend.specs.declared.outcome.Outcome.{Outcome}
use Rattle.xfs_mend.specs.declared.outcome.Outcome.TheVariants.{NoGeometry, Unsupported, DirtyLog, TooLarge, UnsupportedFile, Clean, Damaged, Repaired, NoRoom, ReadFault, WriteFault, NoMemory}
use Rattle.xfs_mend.specs.declared.outcome.Summary.TheVariants.{Backups, Rebuilt}

-- a truth value is not both
not_both : (b : Bool) → b ≡ true → b ≡ false → ⊥
not_both b is isnt = absurd_of (sym is ∙ isnt)
  where
    absurd_of : true ≡ false → ⊥
    absurd_of e = cc

-- the outcomes of a check say that nothing was written
pub quiet_where_checked : (o : Asked) (outcome : Outcome) → o.check ≡ true → CanCome o outcome → is_quiet outcome ≡ true
quiet_where_checked o NoGeometry check can = refl
quiet_where_checked o (Unsupported word bits) check can = refl
quiet_where_checked o DirtyLog check can = refl
quiet_where_checked o (TooLarge what count) check can = refl
quiet_where_checked o (UnsupportedFile ino what) check can = refl
quiet_where_checked o Clean check can = refl
quiet_where_checked o (Damaged finding) check can = refl
quiet_where_checked o (Repaired (Backups count)) check can = absurd (not_both o.check check can)
quiet_where_checked o (Repaired (Rebuilt blocks kept cleared orphans)) check can = absurd (not_both o.check check can)
quiet_where_checked o (NoRoom what) check can = refl
quiet_where_checked o (ReadFault faults) check can = refl
quiet_where_checked o (WriteFault blocks) check can = absurd (not_both o.check check can)
quiet_where_checked o NoMemory check can = refl

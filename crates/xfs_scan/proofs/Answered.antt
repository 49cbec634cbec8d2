-- Faults of the parts as answers of the whole.
use Rattle.std.proofs.Common.{◌≡◌, ℕ, ◌≤◌, Option, Result, Ok, Err, sym, subst}
use Rattle.xfs_journal.specs.Answers.{IsJournalCause}
use Rattle.xfs_journal.specs.declared.faults.JournalFault.{JournalFault}
use Rattle.xfs_journal.specs.declared.faults.JournalFault.TheVariants as logs
use Rattle.xfs_slots.specs.Causes.{IsReadCause}
use Rattle.xfs_slots.specs.declared.faults.PartFault.{PartFault}
use Rattle.xfs_slots.specs.declared.faults.PartFault.TheVariants as errors
use Rattle.xfs_scan.specs.Answers.{HasScanCause, IsRefusal, IsScanCause, log_fault_of, scan_fault_of}
use Rattle.xfs_scan.specs.declared.faults.ScanFault.{ScanFault}
use Rattle.xfs_scan.specs.declared.faults.ScanFault.TheVariants as faults
use Rattle.xfs_scan.proofs.Counts.{later, rose_on}

-- a cause that is seen from an earlier count on
pub fault_caused : (a b c : ℕ) (fault : ScanFault) → a ≤ b → IsScanCause b c fault → IsScanCause a c fault
fault_caused a b c faults.ReadFault up cause = rose_on a b c up cause
fault_caused a b c (faults.TooLarge what count) up cause = later a b c up cause
fault_caused a b c (faults.UnsupportedFile ino what) up cause = later a b c up cause
fault_caused a b c faults.NoMemory up cause = later a b c up cause

pub scan_caused : {T : Type 0} (a b c : ℕ) (result : Result T ScanFault) → a ≤ b → HasScanCause b c result → HasScanCause a c result
scan_caused a b c (Ok value) up cause = later a b c up cause
scan_caused a b c (Err fault) up cause = fault_caused a b c fault up cause

-- a fault of a part, and one of the log, refuse nothing, and have their causes
pub part_refuses : (due : Option ScanFault) (error : PartFault) (fault : ScanFault) → fault ≡ scan_fault_of error → IsRefusal due fault
part_refuses due errors.ReadFault fault is = subst (IsRefusal due) (sym is) tt
part_refuses due errors.NoMemory fault is = subst (IsRefusal due) (sym is) tt

pub part_caused : (a b : ℕ) (error : PartFault) (fault : ScanFault) → fault ≡ scan_fault_of error → IsReadCause a b error → IsScanCause a b fault
part_caused a b errors.ReadFault fault is cause = subst (IsScanCause a b) (sym is) cause
part_caused a b errors.NoMemory fault is cause = subst (IsScanCause a b) (sym is) cause

pub log_refuses : (due : Option ScanFault) (error : JournalFault) (fault : ScanFault) → fault ≡ log_fault_of error → IsRefusal due fault
log_refuses due logs.ReadFault fault is = subst (IsRefusal due) (sym is) tt
log_refuses due logs.NoMemory fault is = subst (IsRefusal due) (sym is) tt

pub log_caused : (a b : ℕ) (error : JournalFault) (fault : ScanFault) → fault ≡ log_fault_of error → IsJournalCause a b error → IsScanCause a b fault
log_caused a b logs.ReadFault fault is cause = subst (IsScanCause a b) (sym is) cause
log_caused a b logs.NoMemory fault is cause = subst (IsScanCause a b) (sym is) cause

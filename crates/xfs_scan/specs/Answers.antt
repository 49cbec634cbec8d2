-- Why no evidence is gathered.
use Rattle.std.specs.Prelude.{◌≡◌, ℕ, ◌≤◌, Option, Some, None, MatchOption, IfSome, Result, MatchResult, ⊤}
use Rattle.xfs_disk.specs.Faults.{Rose}
use Rattle.xfs_journal.specs.declared.faults.JournalFault.{JournalFault}
use Rattle.xfs_journal.specs.declared.faults.JournalFault.TheVariants as logs
use Rattle.xfs_slots.specs.declared.faults.PartFault.{PartFault}
use Rattle.xfs_slots.specs.declared.faults.PartFault.TheVariants as errors
use Rattle.xfs_scan.specs.declared.faults.ScanFault.{ScanFault}
use Rattle.xfs_scan.specs.declared.faults.ScanFault.TheVariants as faults

-- a read fault is answered only where the count of failed reads rose
abbrev pub IsScanCause : ℕ → ℕ → ScanFault → Type 0
IsScanCause before now faults.ReadFault = Rose before now
IsScanCause before now (faults.TooLarge what count) = before ≤ now
IsScanCause before now (faults.UnsupportedFile ino what) = before ≤ now
IsScanCause before now faults.NoMemory = before ≤ now

abbrev pub HasScanCause : {T : Type 0} → ℕ → ℕ → Result T ScanFault → Type 0
HasScanCause before now result = MatchResult result (λ _. before ≤ now) (IsScanCause before now)

-- a refusal is answered where it is due; a fault of the disk or want of memory may stand in its place
abbrev pub IsRefusal : Option ScanFault → ScanFault → Type 0
IsRefusal due faults.ReadFault = ⊤
IsRefusal due (faults.TooLarge what count) = due ≡ Some (faults.TooLarge what count)
IsRefusal due (faults.UnsupportedFile ino what) = due ≡ Some (faults.UnsupportedFile ino what)
IsRefusal due faults.NoMemory = ⊤

abbrev pub HasRefused : {T : Type 0} → Option ScanFault → Result T ScanFault → Type 0
HasRefused due result = MatchResult result (λ _. due ≡ None) (IsRefusal due)

-- the same, where nothing may be found and then nothing is said
abbrev pub HasRefusedFound : {T : Type 0} → Option ScanFault → Result (Option T) ScanFault → Type 0
HasRefusedFound due result = MatchResult result (λ found. IfSome found (λ _. due ≡ None)) (IsRefusal due)

-- the fault of a part, as the answer of the whole
abbrev pub scan_fault_of : PartFault → ScanFault
scan_fault_of errors.ReadFault = faults.ReadFault
scan_fault_of errors.NoMemory = faults.NoMemory

-- the fault of the log, as the answer of the whole
abbrev pub log_fault_of : JournalFault → ScanFault
log_fault_of logs.ReadFault = faults.ReadFault
log_fault_of logs.NoMemory = faults.NoMemory

-- a refusal that may be answered without a read
pub record IsQuietRefusal (due : Option ScanFault) (fault : ScanFault) : Type 0 where
  pub refusal : IsRefusal due fault
  pub quiet : (n : ℕ) → IsScanCause n n fault

-- what is refused before the log is read, or that nothing is due
abbrev pub IsLateRefusal : Option ScanFault → Option ScanFault → Type 0
IsLateRefusal due answer = MatchOption answer (due ≡ None) (IsQuietRefusal due)

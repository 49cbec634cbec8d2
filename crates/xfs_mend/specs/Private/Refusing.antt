-- What a volume gives that is to be looked at, and what is answered where it is not looked at further.
use Rattle.std.specs.Prelude.{◌≡◌, ◌≤◌, ℕ, Bool, true, false, Some, None, Result, Ok, Err, MatchResult}
use Rattle.xfs_disk.specs.Blocks.{Image}
use Rattle.xfs_disk.specs.Faults.{Rose}
use Rattle.xfs_geom.specs.Volumes.{volume_of}
use Rattle.xfs_geom.specs.declared.geometry.Geometry.{Geometry}
use Rattle.xfs_scan.specs.Evidence.{IsEvidence}
use Rattle.xfs_scan.specs.declared.evidence.Evidence.{Evidence}
use Rattle.xfs_backups.specs.declared.faults.MendFault.{MendFault}
use Rattle.xfs_backups.specs.declared.faults.MendFault.TheVariants as faults
use Rattle.xfs_mend.specs.Due.{IsOwed, turned_away}
use Rattle.xfs_mend.specs.declared.outcome.Outcome.{Outcome}
use Rattle.xfs_mend.specs.declared.outcome.Outcome.TheVariants.{DirtyLog, TooLarge, UnsupportedFile, ReadFault, NoMemory}
use Rattle.xfs_mend.specs.Asked.{Asked}

-- it is not turned away, and this is its evidence
abbrev pub IsAdmitted : Asked → Geometry → Image → Evidence → Type 0
IsAdmitted o g image e = (turned_away o (volume_of g) image ≡ None) × IsEvidence g image e

-- why it is turned away; a failed read or want of memory may stand in its place
abbrev pub IsTurned : Asked → Geometry → Image → Outcome → Type 0
IsTurned o g image outcome = IsOwed (λ due. turned_away o (volume_of g) image ≡ Some due) outcome

-- An answer where nothing was done but reads: a read fault tells the count of failed reads, which rose.
abbrev pub IsTurnCause : ℕ → ℕ → Outcome → Type 0
IsTurnCause before now (ReadFault told) = Rose before now × (told ≡ now)
IsTurnCause before now NoMemory = before ≤ now
IsTurnCause before now DirtyLog = before ≤ now
IsTurnCause before now (TooLarge what count) = before ≤ now
IsTurnCause before now (UnsupportedFile ino what) = before ≤ now
IsTurnCause before now outcome = ⊥

abbrev pub HasTurnCause : {T : Type 0} → ℕ → ℕ → Result T Outcome → Type 0
HasTurnCause before now result = MatchResult result (λ _. before ≤ now) (IsTurnCause before now)

-- an evidence is given where its log does not stand in the way
abbrev pub IsUnless : Bool → Evidence → Result Evidence Outcome → Type 0
IsUnless stands e (Ok given) = (stands ≡ false) × (given ≡ e)
IsUnless stands e (Err outcome) = (stands ≡ true) × (outcome ≡ DirtyLog)

-- the answer to a fault, where so many reads have failed
abbrev pub fault_outcome : ℕ → MendFault → Outcome
fault_outcome count faults.ReadFault = ReadFault count
fault_outcome count faults.NoMemory = NoMemory

-- the log stands in the way first
abbrev pub first_of : Bool → Outcome → Outcome
first_of true refusal = DirtyLog
first_of false refusal = refusal

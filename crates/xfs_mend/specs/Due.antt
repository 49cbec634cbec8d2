-- What is due to an image that is to be repaired.
use Rattle.std.specs.Prelude.{◌≡◌, ℕ, ◌≤◌, ◌&&◌, Bool, true, false, not, if◌then◌else◌, length, Option, Some, None, Result, Ok, Err, ⊤}
use Rattle.xfs_disk.specs.Blocks.{Image}
use Rattle.xfs_disk.specs.declared.stamp.Stamp.{Stamp}
use Rattle.xfs_geom.specs.Election.{Vote, elected}
use Rattle.xfs_geom.specs.Volumes.{Volume, volume_of}
use Rattle.xfs_geom.specs.declared.election.ElectFault.{ElectFault}
use Rattle.xfs_geom.specs.declared.election.ElectFault.TheVariants as fault
use Rattle.xfs_geom.specs.declared.geometry.Geometry.{Geometry}
use Rattle.xfs_log.specs.xfs_heads.declared.log_state.LogState.{LogState}
use Rattle.xfs_log.specs.xfs_heads.declared.log_state.LogState.TheVariants as Log
use Rattle.xfs_laws.specs.Lawful.{broken_law}
use Rattle.xfs_image.specs.Consistent.{IsElected, finding}
use Rattle.xfs_image.specs.View.{log_of}
use Rattle.xfs_image.specs.declared.findings.Finding.{Finding}
use Rattle.xfs_scan.specs.Refused.{refused}
use Rattle.xfs_scan.specs.declared.faults.ScanFault.{ScanFault}
use Rattle.xfs_scan.specs.declared.faults.ScanFault.TheVariants as scan
use Rattle.xfs_backups.specs.Backups.{backup_plan}
use Rattle.xfs_mend.specs.declared.outcome.Outcome.{Outcome}
use Rattle.xfs_mend.specs.declared.outcome.Outcome.TheVariants.{NoGeometry, Unsupported, DirtyLog, TooLarge, UnsupportedFile, Clean, Damaged, Repaired, NoRoom, ReadFault, WriteFault, NoMemory}
use Rattle.xfs_mend.specs.Asked.{Asked}
use Rattle.xfs_mend.specs.Rebuilding.{IsDueRebuild, is_backup}
use Rattle.xfs_mend.specs.declared.outcome.Summary.{Summary}
use Rattle.xfs_mend.specs.declared.outcome.Summary.TheVariants.{Backups, Rebuilt}

-- a log that is not clean stands in the way: the image is not only checked, and the log is not to be dropped
abbrev pub asks_log : Asked → Bool
asks_log o = not o.check && not o.drop_log

abbrev pub is_dirty : LogState → Bool
is_dirty Log.Dirty = true
is_dirty (Log.Clean head) = false

-- the refusal of a volume that is too large or has a file that is not supported
abbrev pub scan_refusal : Option ScanFault → Option Outcome
scan_refusal None = None
scan_refusal (Some scan.ReadFault) = None
scan_refusal (Some (scan.TooLarge what count)) = Some (TooLarge what count)
scan_refusal (Some (scan.UnsupportedFile ino what)) = Some (UnsupportedFile ino what)
scan_refusal (Some scan.NoMemory) = None

abbrev pub away_if : Bool → Option ScanFault → Option Outcome
away_if dirty due = if dirty then Some DirtyLog else scan_refusal due

-- the first cause for which the volume is not looked at further: its log, then its size and its files
unfoldable pub turned_away : Asked → Volume → Image → Option Outcome
turned_away o v image = away_if (asks_log o && is_dirty (log_of v image)) (refused v image)

-- by what is found first: clean where nothing is, damaged where the image is only checked, else the backups are written anew where a backup
-- is found, and in any other case the volume
abbrev pub IsDueRepaired : Bool → Geometry → Stamp → Image → Outcome → Type 0
IsDueRepaired true g s image outcome = outcome ≡ Repaired (Backups (length (backup_plan image)))
IsDueRepaired false g s image outcome = IsDueRebuild g s image outcome

abbrev pub IsDueUnless : Bool → Geometry → Stamp → Image → Finding → Outcome → Type 0
IsDueUnless true g s image found outcome = outcome ≡ Damaged found
IsDueUnless false g s image found outcome = IsDueRepaired (is_backup found) g s image outcome

abbrev pub IsDueFound : Asked → Geometry → Stamp → Image → Option Finding → Outcome → Type 0
IsDueFound o g s image None outcome = outcome ≡ Clean
IsDueFound o g s image (Some found) outcome = IsDueUnless o.check g s image found outcome

-- what is due to an image that elects this geometry: why it is turned away, or what is due by what is found
abbrev pub IsDueBehind : Option Outcome → (Outcome → Type 0) → Outcome → Type 0
IsDueBehind (Some away) later outcome = outcome ≡ away
IsDueBehind None later outcome = later outcome

unfoldable pub IsDueVolume : Asked → Geometry → Stamp → Image → Outcome → Type 0
IsDueVolume o g s image outcome = IsDueBehind (turned_away o (volume_of g) image) (IsDueFound o g s image (finding broken_law g image)) outcome

-- the outcome is due by the geometry that the image elects
pub record IsDueElected (o : Asked) (s : Stamp) (image : Image) (outcome : Outcome) : Type 0 where
  pub geometry : Geometry
  pub elected : IsElected (volume_of geometry) image
  pub is : IsDueVolume o geometry s image outcome

-- the outcome is one that is due, by what the image elects
abbrev pub IsAnswer : Asked → Stamp → Image → Result Vote ElectFault → Outcome → Type 0
IsAnswer o s image (Err (fault.Unsupported word bits)) outcome = outcome ≡ Unsupported word bits
IsAnswer o s image (Err fault.NoGeometry) outcome = outcome ≡ NoGeometry
IsAnswer o s image (Err fault.ReadFault) outcome = outcome ≡ NoGeometry
IsAnswer o s image (Err fault.NoMemory) outcome = outcome ≡ NoGeometry
IsAnswer o s image (Ok vote) outcome = IsDueElected o s image outcome

-- how many blocks a repair writes
abbrev pub blocks_of_repair : Summary → ℕ
blocks_of_repair (Backups count) = count
blocks_of_repair (Rebuilt blocks kept cleared orphans) = blocks

-- The outcome is one of those that are due; a failed read or want of memory may stand in its place, and a failed write in that of a
-- repair, with no more blocks than those that the repair writes.
abbrev pub IsOwed : (Outcome → Type 0) → Outcome → Type 0
IsOwed due (ReadFault faults) = ⊤
IsOwed due (WriteFault blocks) = (summary : Summary) × (blocks ≤ blocks_of_repair summary) × due (Repaired summary)
IsOwed due NoMemory = ⊤
IsOwed due outcome = due outcome

abbrev pub IsDueRepair : Asked → Stamp → Image → Outcome → Type 0
IsDueRepair o s image outcome = IsOwed (IsAnswer o s image (elected image)) outcome

-- The outcomes that may come of what is asked, whatever a disk tells: only a check finds damage, and a check repairs nothing, fails no
-- write, and never answers that there is no room.
abbrev pub CanCome : Asked → Outcome → Type 0
CanCome o (Damaged found) = o.check ≡ true
CanCome o (Repaired (Backups count)) = o.check ≡ false
CanCome o (Repaired (Rebuilt blocks kept cleared orphans)) = o.check ≡ false
CanCome o (NoRoom what) = o.check ≡ false
CanCome o (WriteFault blocks) = o.check ≡ false
CanCome o outcome = ⊤

-- an outcome but for how many blocks a rebuild writes, of which it is said what it leaves
abbrev pub uncounted : Outcome → Outcome
uncounted (Repaired (Rebuilt blocks kept cleared orphans)) = Repaired (Rebuilt 0 kept cleared orphans)
uncounted outcome = outcome

-- What a command does to a disk, also to one that tells nothing.
use Rattle.std.specs.Prelude.{◌≡◌, ℕ, ◌+◌, ◌≤◌, ◌⊎◌, Bool, true, List, Option, Some, None, Result, Ok, Err, slice_get}
use Rattle.std.specs.Option.{ForSome}
use Rattle.xfs_disk.specs.Blocks.{Image}
use Rattle.xfs_disk.specs.Counts.{raised, raised_times}
use Rattle.xfs_disk.specs.Faults.{Rose}
use Rattle.xfs_disk.specs.Reads.{OnlyReads}
use Rattle.xfs_shell.specs.declared.running.LineEnd.{LineEnd}
use Rattle.xfs_shell.specs.declared.running.LineEnd.TheVariants as line
use Rattle.xfs_shell.specs.declared.session.Stop.{Stop}
use Rattle.xfs_shell.specs.declared.session.Stop.TheVariants as stop

-- a stop of the machine leaves just what the disk holds, where it tells that
abbrev pub IsDurable : {D : Type 0} → (D → Option Image) → (D → ℕ → List ℕ → Type 0) → D → Type 0
IsDurable holds may_leave disk = ForSome (holds disk) (λ image. (b : ℕ) (v : List ℕ) → may_leave disk b v → slice_get image b ≡ Some v)

-- what stopped a command, if anything did
abbrev pub stop_told : {T : Type 0} → Result T Stop → Option Stop
stop_told (Ok _) = None
stop_told (Err stop) = Some stop

-- what stopped the command of a line; that its lines could not be put did not
abbrev pub stop_of_line : {T : Type 0} → Result T LineEnd → Option Stop
stop_of_line (Ok _) = None
stop_of_line (Err (line.Stopped stop)) = Some stop
stop_of_line (Err line.OutputFault) = None

-- the counts of faults have not fallen, and a fault is answered only where its count rose
abbrev pub HasStopCause : ℕ → ℕ → ℕ → ℕ → Option Stop → Type 0
HasStopCause faults faults_now write_faults write_faults_now None = (faults ≤ faults_now) × (write_faults ≤ write_faults_now)
HasStopCause faults faults_now write_faults write_faults_now (Some stop.ReadFault) = Rose faults faults_now × (write_faults ≤ write_faults_now)
HasStopCause faults faults_now write_faults write_faults_now (Some (stop.WriteFault written)) = (faults ≤ faults_now) × Rose write_faults write_faults_now
HasStopCause faults faults_now write_faults write_faults_now (Some stop.NoMemory) = (faults ≤ faults_now) × (write_faults ≤ write_faults_now)

-- it was no fault of writing
abbrev pub IsNoWriteFault : Option Stop → Type 0
IsNoWriteFault None = Unit {0}
IsNoWriteFault (Some stop.ReadFault) = Unit {0}
IsNoWriteFault (Some (stop.WriteFault written)) = ⊥
IsNoWriteFault (Some stop.NoMemory) = Unit {0}

-- one block was written, or as many as a fault tells, which are one at most
abbrev pub CountsStep : ℕ → ℕ → Option Stop → Type 0
CountsStep before now None = now ≡ raised before
CountsStep before now (Some stop.ReadFault) = ⊥
CountsStep before now (Some (stop.WriteFault written)) = (written ≤ 1) × (now ≡ raised_times written before)
CountsStep before now (Some stop.NoMemory) = ⊥

-- a command that reads at most one block, and writes nothing
pub record IsOneRead {D : Type 0} (size : D → ℕ) (holds : D → Option Image) (faults write_faults reads writes : D → ℕ) (tells_stops : D → Type 0)
    (moment : D → ℕ) (may_leave : D → ℕ → List ℕ → Type 0) (left_since : D → ℕ → Image → Type 0) (old new : D) (stop : Option Stop) : Type 0 where
  pub cause : HasStopCause (faults old) (faults new) (write_faults old) (write_faults new) stop
  pub no_write_fault : IsNoWriteFault stop
  pub one_read : reads new ≤ reads old + 1
  pub only_reads : OnlyReads size holds write_faults writes tells_stops moment may_leave left_since old new

-- A command that may write and writes one block, which is kept where the command is finished: a stop of the machine then leaves just
-- what the disk holds.
pub record IsWritten {D : Type 0} (size : D → ℕ) (holds : D → Option Image) (faults write_faults reads writes : D → ℕ) (tells_stops : D → Type 0)
    (may_leave : D → ℕ → List ℕ → Type 0) (may : Bool) (old new : D) (stop : Option Stop) : Type 0 where
  pub allowed : may ≡ true
  pub same_size : size new ≡ size old
  pub tells : tells_stops old → tells_stops new
  pub cause : HasStopCause (faults old) (faults new) (write_faults old) (write_faults new) stop
  pub one_read : reads new ≤ reads old + 1
  pub one_write : CountsStep (writes old) (writes new) stop
  pub kept : stop ≡ None → tells_stops old → IsDurable holds may_leave new

-- a command reads, or it writes one block, where it may
abbrev pub IsStep : {D : Type 0} → (D → ℕ) → (D → Option Image) → (D → ℕ) → (D → ℕ) → (D → ℕ) → (D → ℕ) → (D → Type 0) → (D → ℕ)
    → (D → ℕ → List ℕ → Type 0) → (D → ℕ → Image → Type 0) → Bool → D → D → Option Stop → Type 0
IsStep size holds faults write_faults reads writes tells_stops moment may_leave left_since may old new stop =
    IsOneRead size holds faults write_faults reads writes tells_stops moment may_leave left_since old new stop
    ⊎ IsWritten size holds faults write_faults reads writes tells_stops may_leave may old new stop

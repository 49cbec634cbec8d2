-- What the command of a line prints and leaves.
use Rattle.std.specs.Prelude.{◌≡◌, ℕ, ◌≤◌, List, ◌++◌, length, take, Option, Some, Result, Ok, Err}
use Rattle.xfs_disk.specs.Blocks.{Image}
use Rattle.xfs_disk.specs.Faults.{Rose}
use Rattle.xfs_commands.specs.Commands.{Effect, Session}
use Rattle.xfs_shell.specs.Running.{image_after}
use Rattle.xfs_shell.specs.Sessions.{LeavesAtStop, raised_put}
use Rattle.xfs_commands.specs.declared.cursor.Verdict.{Verdict}
use Rattle.xfs_shell.specs.declared.running.LineEnd.{LineEnd}
use Rattle.xfs_shell.specs.declared.running.LineEnd.TheVariants as line
use Rattle.xfs_shell.specs.declared.session.Stop.TheVariants as stop

-- a prefix of a text was put behind what was put before, but for at least so many bytes of it
abbrev pub IsPrefixPut : List ℕ → ℕ → List ℕ → Option (List ℕ) → Type 0
IsPrefixPut before least text took = (n : ℕ) × (least ≤ n) × (n ≤ length text) × (took ≡ Some (before ++ take n text))

-- where the language, the image and the count of writes stand behind a command that was run and put
pub record StandsBehind (e : Effect) (image : Image) (verdict : Verdict) (session : Session) (now : Option Image) (writes writes_now : ℕ) : Type 0 where
  pub verdict_is : verdict ≡ e.verdict
  pub session_is : session ≡ e.session
  pub image_is : now ≡ Some (image_after e.put image)
  pub writes_are : writes_now ≡ raised_put e.put writes

-- what the command of a line leaves
abbrev pub LeavesLine : Effect → Image → Session → Option Image → ℕ → ℕ → Result Verdict LineEnd → Type 0
LeavesLine e image session now writes writes_now (Ok verdict) = StandsBehind e image verdict session now writes writes_now
LeavesLine e image session now writes writes_now (Err (line.Stopped stop)) = LeavesAtStop e image now stop
LeavesLine e image session now writes writes_now (Err line.OutputFault) =
    (now ≡ Some (image_after e.put image)) × (writes_now ≡ raised_put e.put writes)

-- what it prints
abbrev pub PrintsLine : Effect → List ℕ → Option (List ℕ) → Result Verdict LineEnd → Type 0
PrintsLine e before took (Ok verdict) = took ≡ Some (before ++ e.text)
PrintsLine e before took (Err (line.Stopped stop)) = took ≡ Some before
PrintsLine e before took (Err line.OutputFault) = IsPrefixPut before 0 e.text took

-- nothing is put of a command that was stopped
abbrev pub IsHalted : {T : Type 0} → Result T LineEnd → Type 0
IsHalted (Ok _) = ⊥
IsHalted (Err (line.Stopped stop)) = Unit {0}
IsHalted (Err line.OutputFault) = ⊥

-- the counts of faults have not fallen
pub record HasCounts (faults faults_now write_faults write_faults_now put_faults put_faults_now : ℕ) : Type 0 where
  pub reads : faults ≤ faults_now
  pub writes : write_faults ≤ write_faults_now
  pub puts : put_faults ≤ put_faults_now

-- a fault is answered only where its count rose
abbrev pub HasLineCause : {T : Type 0} → ℕ → ℕ → ℕ → ℕ → ℕ → ℕ → Result T LineEnd → Type 0
HasLineCause f f' w w' p p' (Ok _) = Unit {0}
HasLineCause f f' w w' p p' (Err (line.Stopped stop.ReadFault)) = Rose f f'
HasLineCause f f' w w' p p' (Err (line.Stopped (stop.WriteFault written))) = Rose w w'
HasLineCause f f' w w' p p' (Err (line.Stopped stop.NoMemory)) = Unit {0}
HasLineCause f f' w w' p p' (Err line.OutputFault) = Rose p p'

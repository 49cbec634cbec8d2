-- What running a command over a disk means.
use Rattle.std.specs.Prelude.{◌≡◌, ℕ, zero, suc, ◌⊎◌, List, ◌++◌, Option, Some, None, Result, Ok, Err}
use Rattle.xfs_disk.specs.Blocks.{Image}
use Rattle.xfs_disk.specs.Counts.{raised}
use Rattle.xfs_disk.specs.declared.failed.NoMemory.{NoMemory}
use Rattle.xfs_commands.specs.Commands.{Effect, Put, Session}
use Rattle.xfs_shell.specs.Running.{count_put, image_after}
use Rattle.xfs_commands.specs.declared.cursor.Verdict.{Verdict}
use Rattle.xfs_shell.specs.declared.session.Stop.{Stop}
use Rattle.xfs_shell.specs.declared.session.Stop.TheVariants as stop

-- want of memory is one of the stops
abbrev pub stopped : Result Verdict NoMemory → Result Verdict Stop
stopped (Ok verdict) = Ok verdict
stopped (Err e) = Err stop.NoMemory

-- a disk's count of writes with the block that is written, if any
abbrev pub raised_put : Put → ℕ → ℕ
raised_put None count = count
raised_put (Some put) count = raised count

-- a command was run, with this effect on an image, and on the disk's count of writes
pub record IsRunCommand (e : Effect) (image : Image) (verdict : Verdict) (old new : List ℕ) (session : Session) (now : Option Image) (writes writes_now : ℕ) : Type 0 where
  pub verdict_is : verdict ≡ e.verdict
  pub text_is : new ≡ old ++ e.text
  pub session_is : session ≡ e.session
  pub image_is : now ≡ Some (image_after e.put image)
  pub writes_are : writes_now ≡ raised_put e.put writes

-- what a fault of writing one block leaves: where the block was not written it is old or new, where it was, new
abbrev pub IsWrittenBehind : ℕ → Image → Image → Option Image → Type 0
IsWrittenBehind zero image planned now = (now ≡ Some image) ⊎ (now ≡ Some planned)
IsWrittenBehind (suc more) image planned now = (more ≡ 0) × (now ≡ Some planned)

-- what a stop leaves: the image, or after a fault of writing, which only a command that writes has, maybe the one with the block in hand
abbrev pub LeavesAtStop : Effect → Image → Option Image → Stop → Type 0
LeavesAtStop e image now stop.ReadFault = now ≡ Some image
LeavesAtStop e image now stop.NoMemory = now ≡ Some image
LeavesAtStop e image now (stop.WriteFault written) = IsWrittenBehind written image (image_after e.put image) now × (count_put e.put 0 ≡ 1)

abbrev pub IsCommandOutcome : Effect → Image → List ℕ → List ℕ → Session → Option Image → ℕ → ℕ → Result Verdict Stop → Type 0
IsCommandOutcome e image old new session now writes writes_now (Ok verdict) = IsRunCommand e image verdict old new session now writes writes_now
IsCommandOutcome e image old new session now writes writes_now (Err stop) = LeavesAtStop e image now stop

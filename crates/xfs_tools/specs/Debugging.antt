-- What a call of xfs_db answers, puts and leaves (xfs_db(8)).
use Rattle.std.specs.Prelude.{◌≡◌, ℕ, ◌+◌, false, ◌⊎◌, List, ◌++◌, Option, Some, Result, Ok, Err, IfOk}
use Rattle.std.specs.Option.{ForSome}
use Rattle.xfs_disk.specs.Blocks.{Image}
use Rattle.xfs_disk.specs.declared.failed.Failed.{Failed}
use Rattle.xfs_geom.specs.Election.{elected}
use Rattle.xfs_geom.specs.Volumes.{stated_volume}
use Rattle.xfs_options.specs.DebugWords.{Debug}
use Rattle.xfs_options.specs.declared.reading.LineFault.{LineFault}
use Rattle.xfs_options.specs.declared.reading.LineFault.TheVariants as line
use Rattle.xfs_shell.specs.Running.{may_write}
use Rattle.xfs_shell.specs.Shells.{leave_of, most_of, told_lines, HasSessionCause, HasElected, HasInput, IsEarly, LeavesDisk, Prints, RunsOver}
use Rattle.xfs_shell.specs.Stops.{StopsBetween}
use Rattle.xfs_shell.specs.declared.outcomes.ShellOptions.{ShellOptions}
use Rattle.xfs_shell.specs.declared.outcomes.ShellOutcome.{ShellOutcome}
use Rattle.xfs_shell.specs.declared.outcomes.ShellOutcome.TheVariants as shell
use Rattle.xfs_tools.specs.Texts.{code_of}
use Rattle.xfs_tools.specs.declared.answer.Answer.{Answer}
use Rattle.xfs_tools.specs.declared.answer.Answer.TheVariants.{Usage, NoGeometry, Unsupported, ReadFault, WriteFault, OutputFault, NoMemory, Done, InputFault, InputLong}
use Rattle.xfs_tools.specs.declared.answer.Status.{Status}
use Rattle.xfs_tools.specs.declared.debugger.End.{End}

-- what the session is asked for
abbrev pub session_options : Debug → ShellOptions
session_options line = record { expert = line.expert; read_only = line.read_only; commands = line.commands }

-- the answer that the outcome of a session is, where the disk has counted so many failed reads
abbrev pub session_answer : ℕ → ShellOutcome → Answer
session_answer faults shell.Done = Done
session_answer faults shell.NoGeometry = NoGeometry
session_answer faults (shell.Unsupported word bits) = Unsupported word bits
session_answer faults (shell.ReadFault k) = ReadFault faults
session_answer faults (shell.WriteFault written k) = WriteFault written
session_answer faults shell.InputFault = InputFault
session_answer faults shell.InputLong = InputLong
session_answer faults (shell.OutputFault k) = OutputFault
session_answer faults (shell.NoMemory k) = NoMemory

-- how many commands were finished, where the outcome tells
abbrev pub finished_of : ShellOutcome → ℕ
finished_of (shell.ReadFault k) = k
finished_of (shell.WriteFault written k) = k
finished_of (shell.OutputFault k) = k
finished_of (shell.NoMemory k) = k
finished_of outcome = 0

-- A session over a disk, an input and an output came to this outcome. Whatever they tell: a fault only where its count rose, how many blocks
-- were read and written, and what was put only behind what stood there. Each other part says what is due where that tells on which it
-- rests: the disk, the output for the text, and the input unless there are commands.
pub record IsShelled {D S O : Type 0} (holds : D → Option Image) (size faults write_faults reads writes : D → ℕ) (tells_stops : D → Type 0) (moment : D → ℕ)
    (may_leave : D → ℕ → List ℕ → Type 0) (left_since : D → ℕ → Image → Type 0) (left : S → Option (List ℕ)) (takes : S → ℕ) (took : O → Option (List ℕ)) (puts : O → ℕ)
    (old new : D) (input input_now : S) (out out_now : O) (options : ShellOptions) (outcome : ShellOutcome) : Type 0 where
  pub election : ForSome (holds old) (λ image. HasElected (elected image) outcome)
  pub taken : HasInput options.commands (left input) outcome
  pub image : ForSome (holds old) (λ image. IfOk (elected image) (λ vote. ForSome (told_lines options.commands (left input)) (λ lines.
      LeavesDisk (stated_volume vote.sector) (leave_of options) lines image (holds new) (writes old) (writes new) outcome)))
  pub text : ForSome (holds old) (λ image. IfOk (elected image) (λ vote. ForSome (told_lines options.commands (left input)) (λ lines.
      ForSome (took out) (λ before. Prints (stated_volume vote.sector) (leave_of options) lines image before (took out_now) outcome))))
  pub stops : ForSome (holds old) (λ image. IfOk (elected image) (λ vote. ForSome (told_lines options.commands (left input)) (λ lines.
      StopsBetween holds tells_stops moment may_leave left_since (stated_volume vote.sector) (leave_of options) lines image old new)))
  pub silent : IsEarly outcome → took out_now ≡ took out
  pub appends : ForSome (took out) (λ before. (rest : List ℕ) × (took out_now ≡ Some (before ++ rest)))
  pub disk : RunsOver size holds reads writes write_faults tells_stops moment may_leave left_since (may_write (leave_of options))
      (size old + most_of (told_lines options.commands (left input))) (most_of (told_lines options.commands (left input))) old new outcome
  pub cause : HasSessionCause (faults old) (faults new) (write_faults old) (write_faults new) (takes input) (takes input_now) (puts out) (puts out_now) outcome

-- what was asked of a session was done, as its outcome says, where the disk has counted so many failed reads
pub record IsOfSession (options : ShellOptions) (done : ShellOptions → ShellOutcome → Type 0) (faults : ℕ) (answer : Answer) (finished : ℕ) : Type 0 where
  pub outcome : ShellOutcome
  pub answer_is : answer ≡ session_answer faults outcome
  pub finished_is : finished ≡ finished_of outcome
  pub is_done : done options outcome

-- the end of a call whose words were refused, or could not be read for want of memory
abbrev pub line_refusal : LineFault → End
line_refusal (line.Offends n) = record { answer = Usage n; finished = 0 }
line_refusal line.NoMemory = record { answer = NoMemory; finished = 0 }

-- nothing was run, for this answer, and all is the same
pub record IsNoSession (due : Answer) (same : Type 0) (answer : Answer) (finished : ℕ) : Type 0 where
  pub answer_is : (answer ≡ due) ⊎ (answer ≡ NoMemory)
  pub finished_is : finished ≡ 0
  pub untouched : same

-- The words behind xfs_db were refused for the first that offends, or the session that they ask for was run, unless memory lacked
-- for the words.
abbrev pub IsDebugged : Result Debug ℕ → Type 0 → (ShellOptions → ShellOutcome → Type 0) → ℕ → Answer → ℕ → Type 0
IsDebugged (Err n) same done faults answer finished = IsNoSession (Usage n) same answer finished
IsDebugged (Ok line) same done faults answer finished =
    IsNoSession NoMemory same answer finished ⊎ IsOfSession (session_options line) done faults answer finished

-- the status of a session; where the line of its answer could not be put, an output fault stands in its place
abbrev pub session_status : Answer → ℕ → Result (Unit {0}) Failed → Status
session_status answer finished (Ok done) = record { code = code_of false answer; answer = answer; finished = finished }
session_status answer finished (Err failed) = record { code = 1; answer = OutputFault; finished = finished }

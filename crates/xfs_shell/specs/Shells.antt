-- What a session answers, prints and leaves (xfs_db(8)), one fact for each part that tells.
use Rattle.std.specs.Prelude.{◌≡◌, ℕ, zero, suc, ◌+◌, ◌-◌, ◌≤◌, ◌<◌, ◌⊎◌, Bool, false, List, [], ◌∷◌, ◌++◌, length, Option, Some, None, Result, Ok, Err}
use Rattle.std.specs.Option.{ForSome}
use Rattle.xfs_disk.specs.Counts.{raised_times}
use Rattle.xfs_disk.specs.Blocks.{Image}
use Rattle.xfs_disk.specs.Faults.{Rose}
use Rattle.xfs_disk.specs.Reads.{OnlyReads}
use Rattle.xfs_geom.specs.Election.{Vote}
use Rattle.xfs_geom.specs.Volumes.{Volume}
use Rattle.xfs_geom.specs.declared.election.ElectFault.{ElectFault}
use Rattle.xfs_geom.specs.declared.election.ElectFault.TheVariants as fault
use Rattle.xfs_shell.specs.Ends.{IsPrefixPut}
use Rattle.xfs_shell.specs.LineParts.{line_parts}
use Rattle.xfs_shell.specs.Running.{shelled, shelled_first, until_quit}
use Rattle.xfs_shell.specs.Sessions.{IsWrittenBehind}
use Rattle.xfs_shell.specs.Steps.{IsDurable}
use Rattle.xfs_shell.specs.declared.line_parts.Cut.TheVariants.{LineFeeds}
use Rattle.xfs_shell.specs.declared.outcomes.ShellOptions.{ShellOptions}
use Rattle.xfs_shell.specs.declared.outcomes.ShellOutcome.{ShellOutcome}
use Rattle.xfs_shell.specs.declared.outcomes.ShellOutcome.TheVariants.{Done, NoGeometry, Unsupported, ReadFault, WriteFault, InputFault, InputLong, OutputFault, NoMemory}
use Rattle.xfs_shell.specs.declared.running.LineEnd.{LineEnd}
use Rattle.xfs_shell.specs.declared.running.LineEnd.TheVariants as line
use Rattle.xfs_shell.specs.declared.session.Leave.{Leave}
use Rattle.xfs_shell.specs.declared.session.Stop.{Stop}
use Rattle.xfs_shell.specs.declared.session.Stop.TheVariants as stop

-- what the options allow
abbrev pub leave_of : ShellOptions → Leave
leave_of o = record { expert = o.expert; read_only = o.read_only }

-- the outcome of lines that were stopped behind so many commands
abbrev pub stopped_outcome : Stop → ℕ → ShellOutcome
stopped_outcome stop.ReadFault k = ReadFault k
stopped_outcome (stop.WriteFault written) k = WriteFault written k
stopped_outcome stop.NoMemory k = NoMemory k

-- the outcome of lines of which so many were finished before one that ended so
abbrev pub outcome_behind : ℕ → LineEnd → ShellOutcome
outcome_behind k (line.Stopped stop) = stopped_outcome stop k
outcome_behind k line.OutputFault = OutputFault (k + 1)

-- the lines of an input that tells them
abbrev pub input_lines : Option (List ℕ) → Option (List (List ℕ))
input_lines None = None
input_lines (Some left) = Some (line_parts LineFeeds left)

-- the lines of a session, where they are told: the commands, or where there is none those of the input
abbrev pub told_lines : List (List ℕ) → Option (List ℕ) → Option (List (List ℕ))
told_lines [] left = input_lines left
told_lines (command ∷ commands) left = Some (command ∷ commands)

-- how many commands are run at most: the lines up to the first quit, and no more than an input may have bytes
abbrev pub most_of : Option (List (List ℕ)) → ℕ
most_of None = 1048576
most_of (Some lines) = until_quit lines

-- a block could not be read for the election, or memory lacked
abbrev pub IsUndecided : ShellOutcome → Type 0
IsUndecided outcome = (outcome ≡ ReadFault 0) ⊎ (outcome ≡ NoMemory 0)

-- what was elected, by the outcome: where nothing was, it says why
abbrev pub HasElected : Result Vote ElectFault → ShellOutcome → Type 0
HasElected (Ok vote) NoGeometry = ⊥
HasElected (Ok vote) (Unsupported word bits) = ⊥
HasElected (Ok vote) outcome = Unit {0}
HasElected (Err fault.NoGeometry) outcome = (outcome ≡ NoGeometry) ⊎ IsUndecided outcome
HasElected (Err (fault.Unsupported word bits)) outcome = (outcome ≡ Unsupported word bits) ⊎ IsUndecided outcome
HasElected (Err other) outcome = IsUndecided outcome

-- the session came past the election
abbrev pub IsPastElection : ShellOutcome → Type 0
IsPastElection NoGeometry = ⊥
IsPastElection (Unsupported word bits) = ⊥
IsPastElection outcome = Unit {0}

-- lines were run
abbrev pub IsOfLines : ShellOutcome → Type 0
IsOfLines Done = Unit {0}
IsOfLines (ReadFault k) = Unit {0}
IsOfLines (WriteFault written k) = Unit {0}
IsOfLines (OutputFault k) = Unit {0}
IsOfLines (NoMemory k) = Unit {0}
IsOfLines outcome = ⊥

-- an input is not too long, where it tells
abbrev pub IsShort : Option (List ℕ) → Type 0
IsShort left = ForSome left (λ bytes. length bytes ≤ 1048576)

-- an input is too long or can't be read only where it is read, and only one that is not too long has its lines run
abbrev pub HasInput : List (List ℕ) → Option (List ℕ) → ShellOutcome → Type 0
HasInput (command ∷ commands) left InputFault = ⊥
HasInput (command ∷ commands) left InputLong = ⊥
HasInput (command ∷ commands) left outcome = Unit {0}
HasInput [] left NoGeometry = Unit {0}
HasInput [] left (Unsupported word bits) = Unit {0}
HasInput [] left InputFault = Unit {0}
HasInput [] left InputLong = ForSome left (λ bytes. 1048576 < length bytes)
HasInput [] left (ReadFault zero) = Unit {0}
HasInput [] left (ReadFault (suc k)) = IsShort left
HasInput [] left (NoMemory zero) = Unit {0}
HasInput [] left (NoMemory (suc k)) = IsShort left
HasInput [] left Done = IsShort left
HasInput [] left (WriteFault written k) = IsShort left
HasInput [] left (OutputFault k) = IsShort left

-- what lines leave of the image: that behind the commands that were finished, or after a fault of writing maybe with the next one's block
abbrev pub SessionLeaves : Volume → Leave → List (List ℕ) → Image → Option Image → ShellOutcome → Type 0
SessionLeaves v leave lines image now Done = now ≡ Some (shelled v leave lines image).image
SessionLeaves v leave lines image now (ReadFault k) = now ≡ Some (shelled_first v leave lines image k).image
SessionLeaves v leave lines image now (WriteFault written k) =
    IsWrittenBehind written (shelled_first v leave lines image k).image (shelled_first v leave lines image (k + 1)).image now
SessionLeaves v leave lines image now (OutputFault k) = now ≡ Some (shelled_first v leave lines image k).image
SessionLeaves v leave lines image now (NoMemory k) = now ≡ Some (shelled_first v leave lines image k).image
SessionLeaves v leave lines image now outcome = now ≡ Some image

-- how far the disk's count of writes rose: by one for each finished command that writes, and by the block of one that failed to be kept
abbrev pub CountsSession : Volume → Leave → List (List ℕ) → Image → ℕ → ℕ → ShellOutcome → Type 0
CountsSession v leave lines image writes writes_now Done = writes_now ≡ raised_times (shelled v leave lines image).writes writes
CountsSession v leave lines image writes writes_now (ReadFault k) = writes_now ≡ raised_times (shelled_first v leave lines image k).writes writes
CountsSession v leave lines image writes writes_now (WriteFault written k) =
    (writes_now ≡ raised_times written (raised_times (shelled_first v leave lines image k).writes writes))
    × ((shelled_first v leave lines image (k + 1)).writes ≡ suc (shelled_first v leave lines image k).writes)
CountsSession v leave lines image writes writes_now (OutputFault k) = writes_now ≡ raised_times (shelled_first v leave lines image k).writes writes
CountsSession v leave lines image writes writes_now (NoMemory k) = writes_now ≡ raised_times (shelled_first v leave lines image k).writes writes
CountsSession v leave lines image writes writes_now outcome = writes_now ≡ writes

-- so many of the lines are run, and none of them ended the session
abbrev pub IsGoing : Volume → Leave → List (List ℕ) → Image → ℕ → Type 0
IsGoing v leave lines image k = (k ≤ length lines) × ((shelled_first v leave lines image k).quit ≡ false)

-- the commands that were finished are the first lines, up to one that ended the session
abbrev pub Finishes : Volume → Leave → List (List ℕ) → Image → ShellOutcome → Type 0
Finishes v leave lines image (ReadFault k) = IsGoing v leave lines image k
Finishes v leave lines image (WriteFault written k) = (k + 1 ≤ length lines) × IsGoing v leave lines image k
Finishes v leave lines image (OutputFault k) = (1 ≤ k) × (k ≤ length lines) × IsGoing v leave lines image (k - 1)
Finishes v leave lines image (NoMemory k) = IsGoing v leave lines image k
Finishes v leave lines image outcome = Unit {0}

-- what lines leave on a disk that tells
pub record LeavesDisk (v : Volume) (leave : Leave) (lines : List (List ℕ)) (image : Image) (now : Option Image) (writes writes_now : ℕ) (outcome : ShellOutcome) : Type 0 where
  pub image_is : SessionLeaves v leave lines image now outcome
  pub writes_are : CountsSession v leave lines image writes writes_now outcome
  pub finished_are : Finishes v leave lines image outcome

-- what lines print: the text of the commands that were finished, or a part of it that has all but the last one's where that could not be put
abbrev pub Prints : Volume → Leave → List (List ℕ) → Image → List ℕ → Option (List ℕ) → ShellOutcome → Type 0
Prints v leave lines image before took Done = took ≡ Some (before ++ (shelled v leave lines image).text)
Prints v leave lines image before took (ReadFault k) = took ≡ Some (before ++ (shelled_first v leave lines image k).text)
Prints v leave lines image before took (WriteFault written k) = took ≡ Some (before ++ (shelled_first v leave lines image k).text)
Prints v leave lines image before took (OutputFault k) =
    IsPrefixPut before (length (shelled_first v leave lines image (k - 1)).text) (shelled_first v leave lines image k).text took
Prints v leave lines image before took (NoMemory k) = took ≡ Some (before ++ (shelled_first v leave lines image k).text)
Prints v leave lines image before took outcome = took ≡ Some before

-- a fault is answered only where its count rose
abbrev pub HasSessionCause : ℕ → ℕ → ℕ → ℕ → ℕ → ℕ → ℕ → ℕ → ShellOutcome → Type 0
HasSessionCause reads reads' writes writes' takes takes' puts puts' (ReadFault k) = Rose reads reads'
HasSessionCause reads reads' writes writes' takes takes' puts puts' (WriteFault written k) = Rose writes writes'
HasSessionCause reads reads' writes writes' takes takes' puts puts' InputFault = Rose takes takes'
HasSessionCause reads reads' writes writes' takes takes' puts puts' (OutputFault k) = Rose puts puts'
HasSessionCause reads reads' writes writes' takes takes' puts puts' other = Unit {0}

-- how many commands were finished, where the outcome tells
abbrev pub finished_in : ShellOutcome → ℕ
finished_in (ReadFault k) = k
finished_in (WriteFault written k) = k
finished_in (OutputFault k) = k
finished_in (NoMemory k) = k
finished_in outcome = 0

-- how many at most
abbrev pub most_finished : ℕ → ShellOutcome → ℕ
most_finished most Done = most
most_finished most outcome = finished_in outcome

-- how many blocks the command in hand wrote
abbrev pub blocks_written : ShellOutcome → ℕ
blocks_written (WriteFault written k) = written
blocks_written outcome = 0

-- no command was finished, and the one in hand, if any, wrote nothing
abbrev pub IsEarly : ShellOutcome → Type 0
IsEarly NoGeometry = Unit {0}
IsEarly (Unsupported word bits) = Unit {0}
IsEarly InputFault = Unit {0}
IsEarly InputLong = Unit {0}
IsEarly (ReadFault k) = k ≡ 0
IsEarly (NoMemory k) = k ≡ 0
IsEarly outcome = ⊥

-- no write or sync failed
abbrev pub IsSynced : ShellOutcome → Type 0
IsSynced (WriteFault written k) = ⊥
IsSynced outcome = Unit {0}

-- What a session of at most so many commands does to any disk, also to one that tells nothing, where so many blocks may be read.
-- What is not written by a finished command was not written, but for the block of the one in hand; and where no write or sync failed
-- each block that was written is kept: a stop of the machine leaves just what the disk holds, where one at the start did.
pub record RunsOver {D : Type 0} (size : D → ℕ) (holds : D → Option Image) (reads writes write_faults : D → ℕ) (tells_stops : D → Type 0)
    (moment : D → ℕ) (may_leave : D → ℕ → List ℕ → Type 0) (left_since : D → ℕ → Image → Type 0) (may : Bool) (readable most : ℕ) (old new : D) (outcome : ShellOutcome) : Type 0 where
  pub same_size : size new ≡ size old
  pub tells : tells_stops old → tells_stops new
  pub few_reads : reads new ≤ reads old + readable
  pub few_finished : finished_in outcome ≤ most
  pub few_writes : (m : ℕ) × (m ≤ most_finished most outcome) × (writes new ≡ raised_times (blocks_written outcome) (raised_times m (writes old)))
  pub one_written : blocks_written outcome ≤ 1
  pub barred : may ≡ false → OnlyReads size holds write_faults writes tells_stops moment may_leave left_since old new
  pub early : IsEarly outcome → OnlyReads size holds write_faults writes tells_stops moment may_leave left_since old new
  pub kept : IsSynced outcome → tells_stops old → IsDurable holds may_leave old → IsDurable holds may_leave new

-- What a call of mkfs.xfs answers, puts and leaves (mkfs.xfs(8)).
use Rattle.std.specs.Prelude.{◌≡◌, ℕ, ◌≤◌, Bool, true, false, MatchBool, ◌⊎◌, List, Option, Result, Ok, Err}
use Rattle.std.specs.Option.{ForSome}
use Rattle.xfs_disk.specs.Blocks.{Image}
use Rattle.xfs_disk.specs.Files.{Files}
use Rattle.xfs_disk.specs.Reads.{OnlyReads}
use Rattle.xfs_disk.specs.declared.failed.Failed.{Failed}
use Rattle.xfs_disk.specs.declared.stamp.Stamp.{Stamp}
use Rattle.xfs_options.specs.MakeWords.{Refusal, bad, usage}
use Rattle.xfs_options.specs.declared.make_words.MakeFault.{MakeFault}
use Rattle.xfs_options.specs.declared.make_words.MakeFault.TheVariants as words
use Rattle.xfs_options.specs.declared.make_words.MakeLine.{MakeLine}
use Rattle.xfs_options.specs.declared.make_words.MakeOptions.{MakeOptions}
use Rattle.xfs_mkfs.specs.Counts.{CountsBlocks, CountsReads, IsUnwritten}
use Rattle.xfs_mkfs.specs.Outcome as mkfs
use Rattle.xfs_mkfs.specs.Stops.{IsDurableMake, StopLeaves}
use Rattle.xfs_mkfs.specs.declared.outcome.MakeOutcome.{MakeOutcome}
use Rattle.xfs_mkfs.specs.declared.outcome.MakeOutcome.TheVariants as out
use Rattle.xfs_tools.specs.Answers.{IsTold}
use Rattle.xfs_tools.specs.declared.answer.Answer.{Answer}
use Rattle.xfs_tools.specs.declared.answer.Answer.TheVariants.{Usage, BadOption, TooSmall, HasVolume, BadProto, NoFile, LibraryFault, NoRoom, Made, ReadFault, WriteFault, NoMemory}

-- the answer that an outcome of making a volume is
abbrev pub made_answer : MakeOutcome → Answer
made_answer (out.Made summary) = Made summary
made_answer (out.TooSmall what) = TooSmall what
made_answer out.HasVolume = HasVolume
made_answer (out.BadProto line reason) = BadProto line reason
made_answer (out.NoFile line) = NoFile line
made_answer out.LibraryFault = LibraryFault
made_answer (out.NoRoom place) = NoRoom place
made_answer (out.ReadFault faults) = ReadFault faults
made_answer (out.WriteFault written) = WriteFault written
made_answer out.NoMemory = NoMemory

-- the answer tells of a volume that was made
abbrev pub is_made : Answer → Bool
is_made (Made summary) = true
is_made answer = false

-- A volume was to be made on a disk, with the files of a protofile where that is asked, and this came of it. Whatever the disk and the library tell:
-- a fault only where its count rose, all blocks of
-- the plan written, or as many as a write fault says, or none; just the four blocks that have the marks read, and not under -f; before every answer but made and a write fault the disk
-- was only read; the library keeps its files. Of a disk that tells what it holds, also that the outcome is due and what it leaves; of one that tells its stops, also
-- what a stop may leave. Of a library that tells its files, also that these are the ones of the volume, or that the refusal is due to them.
pub record IsMake {D L : Type 0} (holds : D → Option Image) (size faults write_faults reads writes : D → ℕ) (tells_stops : D → Type 0)
    (moment : D → ℕ) (may_leave : D → ℕ → List ℕ → Type 0) (left_since : D → ℕ → Image → Type 0) (files_of : L → Option Files) (library_faults : L → ℕ)
    (s : Stamp) (old new : D) (library library_now : L) (o : MakeOptions) (outcome : MakeOutcome) : Type 0 where
  pub due : ForSome (holds old) (λ image. mkfs.IsDueMake o s (files_of library) (size old) image outcome)
  pub leaves : ForSome (holds old) (λ image. mkfs.MakeLeaves o s (files_of library) (size old) image (holds new) outcome)
  pub cause : mkfs.IsMakingCause (faults old) (faults new) (write_faults old) (write_faults new) (library_faults library) (library_faults library_now) outcome
  pub counts : CountsBlocks o s (files_of library) (size old) (writes old) (writes new) outcome
  pub looked : CountsReads o.force (reads old) (reads new) outcome
  pub unwritten : IsUnwritten outcome → OnlyReads size holds write_faults writes tells_stops moment may_leave left_since old new
  pub kept : IsDurableMake (tells_stops old) (holds new) (may_leave new) outcome
  pub stops : tells_stops old → ForSome (holds old) (λ image. (t : ℕ) (stopped : Image) → t ≤ moment old → left_since new t stopped
      → left_since old t stopped ⊎ StopLeaves o s (files_of library) (size old) image stopped outcome)
  pub same_files : files_of library_now ≡ files_of library
  pub library_rises : library_faults library ≤ library_faults library_now

-- the answer where words were refused, or could not be read for want of memory
abbrev pub make_refusal : MakeFault → Answer
make_refusal (words.Offends n) = Usage n
make_refusal (words.BadOption word item) = BadOption word item
make_refusal words.NoMemory = NoMemory

-- nothing was made, for this answer, and all is the same
pub record IsNoMaking (due : Answer) (same : Type 0) (answer : Answer) : Type 0 where
  pub answer_is : (answer ≡ due) ⊎ (answer ≡ NoMemory)
  pub untouched : same

-- what was asked of the volume was done, as its outcome says
pub record IsOfMaking (line : MakeLine) (done : MakeOptions → MakeOutcome → Type 0) (answer : Answer) (quiet : Bool) : Type 0 where
  pub outcome : MakeOutcome
  pub answer_is : answer ≡ made_answer outcome
  pub quiet_is : quiet ≡ line.quiet
  pub is_done : done line.options outcome

-- The words behind mkfs.xfs were refused, for the first that offends or else for its first bad item, or the volume that they ask for
-- was made, unless memory lacked for the words.
abbrev pub IsMaking : Result MakeLine Refusal → Type 0 → (MakeOptions → MakeOutcome → Type 0) → Answer → Bool → Type 0
IsMaking (Err (usage n)) same done answer quiet = IsNoMaking (Usage n) same answer
IsMaking (Err (bad word item)) same done answer quiet = IsNoMaking (BadOption word item) same answer
IsMaking (Ok line) same done answer quiet = IsNoMaking NoMemory same answer ⊎ IsOfMaking line done answer quiet

-- the line of the answer was put to its stream, or it was left out
abbrev pub IsToldUnless : {O E : Type 0} → Bool → (O → Option (List ℕ)) → (O → ℕ) → (E → Option (List ℕ)) → (E → ℕ) → O → O → E → E → Answer → Result (Unit {0}) Failed → Type 0
IsToldUnless silent out_took out_faults err_took err_faults out out_now err err_now answer put =
    MatchBool silent
    ((out_now ≡ out) × (err_now ≡ err) × (put ≡ Ok tt))
    (IsTold out_took out_faults err_took err_faults out out_now err err_now answer put)

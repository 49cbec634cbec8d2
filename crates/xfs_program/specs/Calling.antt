-- What a call of the program did, and how it ends.
use Rattle.std.specs.Prelude.{◌≡◌, ℕ, ◌&&◌, Bool, true, false, drop, List, Option, Some, None, Result}
use Rattle.std.specs.Option.{ForSome}
use Rattle.xfs_options.specs.Words.{Words}
use Rattle.xfs_disk.specs.Blocks.{Image}
use Rattle.xfs_disk.specs.Files.{Files}
use Rattle.xfs_disk.specs.Reads.{OnlyReads}
use Rattle.xfs_disk.specs.declared.failed.Failed.{Failed}
use Rattle.xfs_disk.specs.declared.stamp.Stamp.{Stamp}
use Rattle.xfs_options.specs.DebugWords.{debug_of}
use Rattle.xfs_options.specs.MakeWords.{make_of}
use Rattle.xfs_system.specs.declared.environment.Environment.{Environment}
use Rattle.xfs_texts.specs.Lines.{PutsText}
use Rattle.xfs_tools.specs.Answers.{IsTold, status_of}
use Rattle.xfs_tools.specs.CommandLine.{is_debugger, is_maker, judged, tells_repair}
use Rattle.xfs_tools.specs.Debugging.{IsDebugged, IsShelled, session_status}
use Rattle.xfs_tools.specs.Explaining.{IsLook, IsText, IsToldBehind}
use Rattle.xfs_tools.specs.Generating.{IsGenerated, files_asked}
use Rattle.xfs_tools.specs.HelpWords.{text_asked}
use Rattle.xfs_tools.specs.Making.{IsMake, IsMaking, IsToldUnless, is_made}
use Rattle.xfs_tools.specs.Repairing.{IsRepair, IsRepairing, only_checks}
use Rattle.xfs_tools.specs.Texts.{text_of}
use Rattle.xfs_tools.specs.declared.answer.Answer.{Answer}
use Rattle.xfs_tools.specs.declared.answer.Status.{Status}

-- What the words say was done to a disk, with this status. Where they ask for help or the version alone, that text was put and nothing else done.
-- For the other words of xfs_repair, and those of no tool: a repair, and its line in its stream, behind a line in words where they ask for it;
-- where it only checks, or the words are refused, the disk was only read. For those of xfs_db: a session, with its input and output, and its line in the
-- other stream. For those of mkfs.xfs: a volume made, or refused, and its line; one that was made with generated files was then damaged and repaired. Only these take
-- files from the library, which keeps them, and none but a session takes input.
pub record IsAnswered {D L S O E : Type 0} (holds : D → Option Image) (size faults write_faults reads writes : D → ℕ) (tells_stops : D → Type 0) (moment : D → ℕ)
    (may_leave : D → ℕ → List ℕ → Type 0) (left_since : D → ℕ → Image → Type 0) (files_of : L → Option Files) (library_faults : L → ℕ) (left : S → Option (List ℕ)) (takes : S → ℕ)
    (took : O → Option (List ℕ)) (puts : O → ℕ) (took_err : E → Option (List ℕ)) (puts_err : E → ℕ)
    (old new : Environment L S O E) (stamp : Stamp) (words : Words) (disk disk_now : D) (status : Status) : Type 0 where
  pub told : (text : Answer) → text_asked words ≡ Some text → (put : Result (Unit {0}) Failed)
      × (disk_now ≡ disk) × (new.files ≡ old.files) × (new.input ≡ old.input)
      × IsTold took puts took_err puts_err old.out new.out old.err new.err text put
      × (status ≡ status_of false text put)
  pub repaired : text_asked words ≡ None → is_debugger words ≡ false → is_maker words ≡ false → (answer : Answer) × (text : Option (List ℕ)) × (put : Result (Unit {0}) Failed)
      × IsRepairing (judged words) (disk_now ≡ disk) (IsRepair holds size faults write_faults writes tells_stops moment may_leave left_since stamp disk disk_now) answer
      × IsText (IsLook holds size faults write_faults writes tells_stops moment may_leave left_since stamp) disk (judged words) answer text
      × IsToldBehind took puts took_err puts_err old.out new.out old.err new.err text answer put
      × (status ≡ status_of (tells_repair words) answer put)
  pub checked : is_debugger words ≡ false → is_maker words ≡ false → only_checks (judged words) ≡ true
      → OnlyReads size holds write_faults writes tells_stops moment may_leave left_since disk disk_now
  pub debugged : text_asked words ≡ None → is_debugger words ≡ true → (answer : Answer) × (finished : ℕ) × (put : Result (Unit {0}) Failed)
      × IsDebugged (debug_of (drop 1 words)) ((disk_now ≡ disk) × (new.input ≡ old.input) × (new.out ≡ old.out))
      (IsShelled holds size faults write_faults reads writes tells_stops moment may_leave left_since left takes took puts disk disk_now old.input new.input old.out new.out) (faults disk_now) answer finished
      × PutsText (took_err old.err) (took_err new.err) (puts_err old.err) (puts_err new.err) (text_of answer) put
      × (status ≡ session_status answer finished put)
  pub made : text_asked words ≡ None → is_debugger words ≡ false → is_maker words ≡ true → files_asked (make_of (drop 1 words)) ≡ None → (answer : Answer) × (quiet : Bool) × (put : Result (Unit {0}) Failed)
      × IsMaking (make_of (drop 1 words)) ((disk_now ≡ disk) × (new.files ≡ old.files)) (IsMake holds size faults write_faults reads writes tells_stops moment may_leave left_since files_of library_faults stamp disk disk_now old.files new.files) answer quiet
      × IsToldUnless (quiet && is_made answer) took puts took_err puts_err old.out new.out old.err new.err answer put
      × (status ≡ status_of false answer put)
  pub generated : text_asked words ≡ None → is_debugger words ≡ false → is_maker words ≡ true → ForSome (files_asked (make_of (drop 1 words)))
      (IsGenerated holds size faults write_faults reads writes tells_stops moment may_leave left_since files_of library_faults took puts took_err puts_err stamp
      (make_of (drop 1 words)) disk disk_now old.files new.files old.out new.out old.err new.err status)
  pub same_library : is_maker words ≡ false → new.files ≡ old.files
  pub same_files : files_of new.files ≡ files_of old.files
  pub same_input : is_debugger words ≡ false → new.input ≡ old.input

-- With an image, the exit status is that of what was done to it; without one it is 1, and nothing was done.
abbrev pub EndsWith : {D : Type 0} → (D → D → Status → Type 0) → Type 0 → Option D → ℕ → Type 0
EndsWith done same None code = same × (code ≡ 1)
EndsWith {D} done same (Some disk) code = (disk_now : D) × (status : Status) × done disk disk_now status × (code ≡ status.code)

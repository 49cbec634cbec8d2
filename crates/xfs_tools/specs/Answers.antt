-- Answers, and how their lines are told.
use Rattle.std.specs.Prelude.{◌≡◌, ℕ, Bool, MatchBool, List, Option, Result, Ok, Err}
use Rattle.xfs_disk.specs.declared.failed.Failed.{Failed}
use Rattle.xfs_mend.specs.declared.outcome.Outcome.{Outcome}
use Rattle.xfs_mend.specs.declared.outcome.Outcome.TheVariants as out
use Rattle.xfs_texts.specs.Lines.{PutsText}
use Rattle.xfs_tools.specs.Texts.{text_of, is_for_out, code_of}
use Rattle.xfs_tools.specs.declared.answer.Answer.{Answer}
use Rattle.xfs_tools.specs.declared.answer.Answer.TheVariants.{NoGeometry, Unsupported, DirtyLog, TooLarge, UnsupportedFile, Clean, Damaged, Repaired, NoRoom, ReadFault, WriteFault, OutputFault, NoMemory}
use Rattle.xfs_tools.specs.declared.answer.Status.{Status}

-- the answer that an outcome of a repair is
abbrev pub answer_of : Outcome → Answer
answer_of out.NoGeometry = NoGeometry
answer_of (out.Unsupported word bits) = Unsupported word bits
answer_of out.DirtyLog = DirtyLog
answer_of (out.TooLarge what count) = TooLarge what count
answer_of (out.UnsupportedFile ino what) = UnsupportedFile ino what
answer_of out.Clean = Clean
answer_of (out.Damaged finding) = Damaged finding
answer_of (out.Repaired summary) = Repaired summary
answer_of (out.NoRoom place) = NoRoom place
answer_of (out.ReadFault faults) = ReadFault faults
answer_of (out.WriteFault blocks) = WriteFault blocks
answer_of out.NoMemory = NoMemory

-- the line of the answer was put to its stream, and nothing to the other
abbrev pub IsTold : {O E : Type 0} → (O → Option (List ℕ)) → (O → ℕ) → (E → Option (List ℕ)) → (E → ℕ) → O → O → E → E → Answer → Result (Unit {0}) Failed → Type 0
IsTold out_took out_faults err_took err_faults out out_now err err_now answer put =
    MatchBool (is_for_out answer)
    ((err_now ≡ err) × PutsText (out_took out) (out_took out_now) (out_faults out) (out_faults out_now) (text_of answer) put)
    ((out_now ≡ out) × PutsText (err_took err) (err_took err_now) (err_faults err) (err_faults err_now) (text_of answer) put)

-- the status where a line could not be put
abbrev pub output_fault : Status
output_fault = record { code = 1; answer = OutputFault; finished = 0 }

-- the status of an answer; where its line could not be put, an output fault stands in its place
abbrev pub status_of : Bool → Answer → Result (Unit {0}) Failed → Status
status_of tells answer (Ok done) = record { code = code_of tells answer; answer = answer; finished = 0 }
status_of tells answer (Err failed) = output_fault

-- What a call of the debugger answers whose words were refused, or asked for a session.
use Rattle.std.proofs.Common.{◌≡◌, ℕ, Result, Ok, Err, inl, inr, refl, subst, sym}
use Rattle.xfs_options.specs.DebugWords.{Debug}
use Rattle.xfs_options.specs.Words.{IsCause}
use Rattle.xfs_options.specs.declared.reading.LineFault.{LineFault}
use Rattle.xfs_options.specs.declared.reading.LineFault.TheVariants.{Offends, NoMemory}
use Rattle.xfs_shell.specs.declared.outcomes.ShellOptions.{ShellOptions}
use Rattle.xfs_shell.specs.declared.outcomes.ShellOutcome.{ShellOutcome}
use Rattle.xfs_tools.specs.Debugging.{IsDebugged, IsOfSession, line_refusal, session_options}
use Rattle.xfs_tools.specs.declared.answer.Answer.{Answer}
use Rattle.xfs_tools.specs.declared.debugger.End.{End}

module _ (same : Type 0) (is_same : same) (done : ShellOptions → ShellOutcome → Type 0) (faults : ℕ) where
  -- memory lacked, whatever the words say
  without_memory : (said : Result Debug ℕ) → IsDebugged said same done faults (line_refusal NoMemory).answer 0
  without_memory (Ok line) = inl (record { answer_is = inl refl; finished_is = refl; untouched = is_same })
  without_memory (Err n) = record { answer_is = inr refl; finished_is = refl; untouched = is_same }

  by_fault : (said : Result Debug ℕ) → (fault : LineFault) → IsCause said fault → IsDebugged said same done faults (line_refusal fault).answer (line_refusal fault).finished
  by_fault said (Offends n) cause =
      subst (λ (due : Result Debug ℕ). IsDebugged due same done faults (line_refusal (Offends n)).answer 0) (sym cause)
      (record { answer_is = inl refl; finished_is = refl; untouched = is_same })
  by_fault said NoMemory cause = without_memory said

  -- the end of a call whose words could not be read
  pub refused_is_debugged : (said : Result Debug ℕ) → (fault : LineFault) → IsCause said fault
      → (end : End) → end ≡ line_refusal fault → IsDebugged said same done faults end.answer end.finished
  refused_is_debugged said fault cause end is = subst (λ (e : End). IsDebugged said same done faults e.answer e.finished) (sym is) (by_fault said fault cause)

-- the end of a call whose words ask for a session
pub session_is_debugged : (same : Type 0) (done : ShellOptions → ShellOutcome → Type 0) (faults : ℕ) → (said : Result Debug ℕ) → (line : Debug) → said ≡ Ok line
    → (options : ShellOptions) → options ≡ session_options line → (answer : Answer) → (finished : ℕ)
    → IsOfSession options done faults answer finished → IsDebugged said same done faults answer finished
session_is_debugged same done faults said line is options options_are answer finished session =
    subst (λ (due : Result Debug ℕ). IsDebugged due same done faults answer finished) (sym is)
    (inr (subst (λ (o : ShellOptions). IsOfSession o done faults answer finished) options_are session))

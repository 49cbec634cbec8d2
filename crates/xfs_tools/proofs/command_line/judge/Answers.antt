use Rattle.std.proofs.Common.{◌≡◌, ◌+◌, length, refl, sym, ap, ◌∙◌}
use Rattle.xfs_tools.proofs.Offending.{refused_first}
use Rattle.xfs_tools.specs.CommandLine.{judged, repair_reading, repair_call}
use Rattle.xfs_tools.specs.declared.command_line.Call.TheVariants.{Refused}
use Rattle.xfs_tools.proofs.command_line.judge.Goals as goal

pub returns-clause-offending : goal.returns-clause-offending
unfolding judged
returns-clause-offending c =
    λ rest n words refusal.
    let told : repair_call (length rest + 1) (repair_reading rest) ≡ Refused n =
    sym (ap judged words) ∙ (sym c.judge_words.ensures ∙ refusal) in
    refused_first rest (repair_reading rest) n refl told

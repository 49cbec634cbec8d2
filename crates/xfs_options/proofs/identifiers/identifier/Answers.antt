use Rattle.std.proofs.Common.{sym, ◌∙◌}
use Rattle.std.proofs.lemmas.Str.{IsUtf8-from_ascii}
use Rattle.xfs_options.proofs.Ascii.{all_ascii}
use Rattle.xfs_options.proofs.identifiers.identifier.Goals as goal

pub returns-in-Err : goal.returns-in-Err
returns-in-Err c =
    absurd
    (c.in-Err.ensures.cases.0
    (IsUtf8-from_ascii c.args.text.now (all_ascii c.args.text.now (sym c.is_ascii.ensures ∙ c.if-not-is_ascii.false))))

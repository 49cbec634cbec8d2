use Rattle.std.proofs.Common.{[], ◌∷◌, ◌++◌, ap, sym, ◌∙◌}
use Rattle.xfs_options.proofs.Values.{values_further}
use Rattle.xfs_options.specs.DebugWords.{values_of}
use Rattle.xfs_options.specs.Words.{Words}
use Rattle.xfs_options.proofs.debug_words.into_values.Goals as goal

pub loop-given-preserved : goal.loop-given-preserved
loop-given-preserved c =
    c.in_ok-push_value.ensures
    ∙ ap (λ (front : Words). front ++ values_of c.args.letter (c.in-Some.given ∷ [])) c.loop-given.invariant
    ∙ sym (values_further c.args.letter c.loop-given.yielded (c.in-Some.given ∷ []))

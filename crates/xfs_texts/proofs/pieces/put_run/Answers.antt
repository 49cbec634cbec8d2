use Rattle.std.proofs.Common.{ap, sym, ◌∙◌}
use Rattle.xfs_texts.specs.Explaining.{run_text}
use Rattle.xfs_texts.proofs.Telling.{puts_as}
use Rattle.xfs_texts.proofs.pieces.put_run.Goals as goal

pub returns-in-None : goal.returns-in-None
returns-in-None g c = puts_as _ _ _ _ _ _ _ (ap run_text (sym c.there.ensures ∙ c.in-None.is)) c.put_line.ensures

pub returns-in-Some : goal.returns-in-Some
returns-in-Some g c = puts_as _ _ _ _ _ _ _ (ap run_text (sym c.there.ensures ∙ c.in-Some.is)) c.put_line-in-Some.ensures

use Rattle.xfs_texts.proofs.Telling.{puts_then}
use Rattle.xfs_texts.proofs.pieces.put_due.Goals as goal

pub returns : goal.returns
returns g c = puts_then _ _ _ _ _ _ _ _ _ _ c.in-Ok.ensures c.put_text.ensures

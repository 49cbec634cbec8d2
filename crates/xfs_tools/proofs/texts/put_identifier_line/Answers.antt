use Rattle.xfs_texts.proofs.Telling.{puts_then}
use Rattle.xfs_tools.proofs.texts.put_identifier_line.Goals as goal

pub returns : goal.returns
returns g c = puts_then _ _ _ _ _ _ _ _ _ _ c.in-Ok.ensures c.put_text.ensures

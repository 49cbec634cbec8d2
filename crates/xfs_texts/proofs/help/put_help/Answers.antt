use Rattle.std.proofs.Common.{ap}
use Rattle.xfs_texts.specs.Help.{help_text}
use Rattle.xfs_texts.proofs.Telling.{puts_as}
use Rattle.xfs_texts.proofs.help.put_help.Goals as goal

pub returns-in-None-clause-text : goal.returns-in-None-clause-text
returns-in-None-clause-text g c = puts_as _ _ _ _ _ _ _ (ap help_text c.in-None.is) c.put_text.ensures

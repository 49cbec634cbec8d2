use Rattle.std.proofs.Common.{ap}
use Rattle.xfs_tools.specs.Texts.{summary_text}
use Rattle.xfs_texts.proofs.Telling.{puts_as}
use Rattle.xfs_tools.proofs.texts.put_summary.Goals as goal

pub returns-in-Backups : goal.returns-in-Backups
returns-in-Backups g c = puts_as _ _ _ _ _ _ _ (ap summary_text c.in-Backups.is) c.put_one.ensures

pub returns-in-Rebuilt : goal.returns-in-Rebuilt
returns-in-Rebuilt g c = puts_as _ _ _ _ _ _ _ (ap summary_text c.in-Rebuilt.is) c.put_line.ensures

use Rattle.std.proofs.Common.{ap}
use Rattle.xfs_texts.specs.Help.{tool_help}
use Rattle.xfs_texts.proofs.Telling.{puts_as}
use Rattle.xfs_texts.proofs.help.put_tool.Goals as goal

pub returns-in-Repair : goal.returns-in-Repair
unfolding tool_help
returns-in-Repair g c = puts_as _ _ _ _ _ _ _ (ap tool_help c.in-Repair.is) c.put_page.ensures

pub returns-in-Make : goal.returns-in-Make
unfolding tool_help
returns-in-Make g c = puts_as _ _ _ _ _ _ _ (ap tool_help c.in-Make.is) c.put_page-in-Make.ensures

pub returns-in-Debug : goal.returns-in-Debug
unfolding tool_help
returns-in-Debug g c = puts_as _ _ _ _ _ _ _ (ap tool_help c.in-Debug.is) c.put_page-in-Debug.ensures

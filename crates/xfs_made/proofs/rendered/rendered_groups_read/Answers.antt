use Rattle.xfs_made.proofs.Groups.{groups_stand, log_stands}
use Rattle.xfs_made.proofs.rendered.rendered_groups_read.Goals as goal

pub returns-clause-groups : goal.returns-clause-groups
returns-clause-groups c = groups_stand

pub returns-clause-log : goal.returns-clause-log
returns-clause-log c = log_stands

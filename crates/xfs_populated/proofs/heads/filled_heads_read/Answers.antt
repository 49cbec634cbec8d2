use Rattle.xfs_populated.proofs.HeadsRead.{backups_are, counts_are, groups_are, log_is, super_is}
use Rattle.xfs_populated.proofs.heads.filled_heads_read.Goals as goal

pub returns-clause-groups : goal.returns-clause-groups
returns-clause-groups c = groups_are

pub returns-clause-primary : goal.returns-clause-primary
returns-clause-primary c = super_is

pub returns-clause-backups : goal.returns-clause-backups
returns-clause-backups c = backups_are

pub returns-clause-counts : goal.returns-clause-counts
returns-clause-counts c = counts_are

pub returns-clause-log : goal.returns-clause-log
returns-clause-log c = log_is

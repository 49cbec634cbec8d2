use Rattle.xfs_restored.proofs.ReadHeads.{backups_due, counts_due, groups_due, log_due, super_due}
use Rattle.xfs_restored.proofs.heads.renamed_heads_read.Goals as goal

pub returns-clause-groups : goal.returns-clause-groups
returns-clause-groups c = groups_due

pub returns-clause-elected : goal.returns-clause-elected
returns-clause-elected c = super_due

pub returns-clause-backups : goal.returns-clause-backups
returns-clause-backups c = backups_due

pub returns-clause-counts : goal.returns-clause-counts
returns-clause-counts c = counts_due

pub returns-clause-log : goal.returns-clause-log
returns-clause-log c = log_due

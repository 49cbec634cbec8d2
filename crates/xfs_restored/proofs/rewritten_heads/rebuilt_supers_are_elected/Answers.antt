use Rattle.xfs_restored.proofs.Logs.{backups_rebuilt, counts_rebuilt, super_rebuilt}
use Rattle.xfs_restored.proofs.rewritten_heads.rebuilt_supers_are_elected.Goals as goal

pub returns-clause-elected : goal.returns-clause-elected
returns-clause-elected c = super_rebuilt

pub returns-clause-backups : goal.returns-clause-backups
returns-clause-backups c = backups_rebuilt

pub returns-clause-counts : goal.returns-clause-counts
returns-clause-counts c = counts_rebuilt

use Rattle.xfs_made.proofs.Supers.{backups_agree, counts_stand, primary_stands}
use Rattle.xfs_made.proofs.rendered.rendered_super_is_elected.Goals as goal

pub returns-clause-elected : goal.returns-clause-elected
returns-clause-elected c = primary_stands

pub returns-clause-backups : goal.returns-clause-backups
returns-clause-backups c = backups_agree

pub returns-clause-counts : goal.returns-clause-counts
returns-clause-counts c = counts_stand

use Rattle.xfs_image.proofs.Consistent.{from_backup}
use Rattle.xfs_laws.specs.Lawful.{broken_law}
use Rattle.xfs_views.proofs.Findings.{backup_found, law_found, none_found, part_found}
use Rattle.xfs_views.proofs.views.findings_by_cases.Goals as goal

pub returns-clause-elsewhere : goal.returns-clause-elsewhere
returns-clause-elsewhere c = from_backup broken_law

pub returns-clause-part : goal.returns-clause-part
returns-clause-part c = part_found broken_law

pub returns-clause-law : goal.returns-clause-law
returns-clause-law c = law_found broken_law

pub returns-clause-backup : goal.returns-clause-backup
returns-clause-backup c = backup_found broken_law

pub returns-clause-none : goal.returns-clause-none
returns-clause-none c = none_found broken_law

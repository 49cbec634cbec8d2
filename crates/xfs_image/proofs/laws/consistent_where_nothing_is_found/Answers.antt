use Rattle.xfs_image.proofs.Backups.{only_backups}
use Rattle.xfs_image.proofs.Consistent.{consistent, from_backup, never_both, nothing_found, one_finding, one_geometry, one_of_both}
use Rattle.xfs_image.proofs.laws.consistent_where_nothing_is_found.Goals as goal

pub returns-clause-consistent : goal.returns-clause-consistent
returns-clause-consistent c = consistent

pub returns-clause-nothing_found : goal.returns-clause-nothing_found
returns-clause-nothing_found c = nothing_found

pub returns-clause-from_backup : goal.returns-clause-from_backup
returns-clause-from_backup c = from_backup

pub returns-clause-one_geometry : goal.returns-clause-one_geometry
returns-clause-one_geometry c = one_geometry

pub returns-clause-one_finding : goal.returns-clause-one_finding
returns-clause-one_finding c = one_finding

pub returns-clause-never_both : goal.returns-clause-never_both
returns-clause-never_both c = never_both

pub returns-clause-one_of_both : goal.returns-clause-one_of_both
returns-clause-one_of_both c = one_of_both

pub returns-clause-only_backups : goal.returns-clause-only_backups
returns-clause-only_backups c = only_backups

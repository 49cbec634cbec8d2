use Rattle.xfs_views.proofs.DirectoriesStay.{all_dirs_stay, all_entries_stay}
use Rattle.xfs_views.proofs.staying_directories.all_directories_stay.Goals as goal

pub returns-clause-entries : goal.returns-clause-entries
returns-clause-entries c = all_entries_stay

pub returns-clause-dirs : goal.returns-clause-dirs
returns-clause-dirs c = all_dirs_stay

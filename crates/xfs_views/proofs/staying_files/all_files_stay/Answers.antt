use Rattle.xfs_views.proofs.FilesKept.{all_files_stay}
use Rattle.xfs_views.proofs.OwnSlots.{files_of_clusters_stay}
use Rattle.xfs_views.proofs.SlotsRead.{all_slots_stay, candidate_files_stay}
use Rattle.xfs_views.proofs.staying_files.all_files_stay.Goals as goal

pub returns-clause-files : goal.returns-clause-files
returns-clause-files c = all_files_stay

pub returns-clause-clusters : goal.returns-clause-clusters
returns-clause-clusters c = λ g image now. files_of_clusters_stay image now g

pub returns-clause-named : goal.returns-clause-named
returns-clause-named c = all_slots_stay

pub returns-clause-candidates : goal.returns-clause-candidates
returns-clause-candidates c = candidate_files_stay

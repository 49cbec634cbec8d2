use Rattle.xfs_made.proofs.Ordered.{clusters_of_volume_ascend, files_of_volume_ascend, files_have_forks}
use Rattle.xfs_made.proofs.ascending.what_is_kept_ascends.Goals as goal

pub returns-clause-clusters : goal.returns-clause-clusters
returns-clause-clusters c = clusters_of_volume_ascend

pub returns-clause-files : goal.returns-clause-files
returns-clause-files c = files_of_volume_ascend

pub returns-clause-forks : goal.returns-clause-forks
returns-clause-forks c = files_have_forks

use Rattle.xfs_restored.proofs.SettledClusters.{clusters_settled, inodes_settled}
use Rattle.xfs_restored.proofs.space.renamed_chunks_are_settled.Goals as goal

pub returns-clause-clusters : goal.returns-clause-clusters
returns-clause-clusters c = clusters_settled

pub returns-clause-inodes : goal.returns-clause-inodes
returns-clause-inodes c = inodes_settled

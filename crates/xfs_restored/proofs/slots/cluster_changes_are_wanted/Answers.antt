use Rattle.xfs_restored.proofs.NewCluster.{free_now, lost_wanted}
use Rattle.xfs_restored.proofs.slots.cluster_changes_are_wanted.Goals as goal

pub returns-clause-lost : goal.returns-clause-lost
returns-clause-lost c = lost_wanted

pub returns-clause-free : goal.returns-clause-free
returns-clause-free c = free_now

use Rattle.xfs_restored.proofs.NewSlots.{added_few, added_made, cluster_row, first_made, others_free}
use Rattle.xfs_restored.proofs.plans.new_clusters_read.Goals as goal

pub returns-clause-few : goal.returns-clause-few
returns-clause-few c = added_few

pub returns-clause-lost : goal.returns-clause-lost
returns-clause-lost c = added_made

pub returns-clause-inodes : goal.returns-clause-inodes
returns-clause-inodes c = cluster_row

pub returns-clause-first : goal.returns-clause-first
returns-clause-first c = first_made

pub returns-clause-free : goal.returns-clause-free
returns-clause-free c = others_free

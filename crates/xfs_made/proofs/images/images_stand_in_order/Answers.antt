use Rattle.xfs_made.proofs.Passing.{clusters_end, kept_entries_stand, slots_stand}
use Rattle.xfs_made.proofs.images.images_stand_in_order.Goals as goal

pub returns-clause-entries : goal.returns-clause-entries
returns-clause-entries c = kept_entries_stand

pub returns-clause-slots : goal.returns-clause-slots
returns-clause-slots c = slots_stand

pub returns-clause-clusters : goal.returns-clause-clusters
returns-clause-clusters c = clusters_end

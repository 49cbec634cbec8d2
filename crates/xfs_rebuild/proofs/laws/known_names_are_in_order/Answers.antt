use Rattle.xfs_rebuild.proofs.Known.{known_clusters_ascend, known_clusters_lie, known_files_ascend, known_forks, known_slots_ascend, known_stand, known_taken, known_writable, refused_has}
use Rattle.xfs_rebuild.proofs.laws.known_names_are_in_order.Goals as goal

pub returns-clause-refused : goal.returns-clause-refused
returns-clause-refused c = refused_has

pub returns-clause-files : goal.returns-clause-files
returns-clause-files c = known_files_ascend

pub returns-clause-forks : goal.returns-clause-forks
returns-clause-forks c = known_forks

pub returns-clause-clusters : goal.returns-clause-clusters
returns-clause-clusters c = known_clusters_ascend

pub returns-clause-inside : goal.returns-clause-inside
returns-clause-inside c = known_clusters_lie

pub returns-clause-slots : goal.returns-clause-slots
returns-clause-slots c = known_slots_ascend

pub returns-clause-taken : goal.returns-clause-taken
returns-clause-taken c = known_taken

pub returns-clause-kept : goal.returns-clause-kept
returns-clause-kept c = known_stand

pub returns-clause-writable : goal.returns-clause-writable
returns-clause-writable c = known_writable

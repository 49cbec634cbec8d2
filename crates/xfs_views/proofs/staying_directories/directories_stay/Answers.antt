use Rattle.xfs_views.proofs.DirectoriesStay.{entries_stay, parent_stays, whole_stays}
use Rattle.xfs_views.proofs.staying_directories.directories_stay.Goals as goal

pub returns-clause-entries : goal.returns-clause-entries
returns-clause-entries c = entries_stay

pub returns-clause-parent : goal.returns-clause-parent
returns-clause-parent c = parent_stays

pub returns-clause-whole : goal.returns-clause-whole
returns-clause-whole c = whole_stays

use Rattle.xfs_views.proofs.GroupsStay.{groups_stay}
use Rattle.xfs_views.proofs.staying_groups.groups_stay.Goals as goal

pub returns : goal.returns
returns c = record { stay = groups_stay }

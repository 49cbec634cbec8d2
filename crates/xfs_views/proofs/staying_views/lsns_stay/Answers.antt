use Rattle.xfs_views.proofs.LsnsStay.{lsns_stay}
use Rattle.xfs_views.proofs.staying_views.lsns_stay.Goals as goal

pub returns : goal.returns
returns c = record { stay = lsns_stay }

use Rattle.xfs_views.proofs.LsnsStay.{log_stays}
use Rattle.xfs_views.proofs.staying_views.log_stays.Goals as goal

pub returns : goal.returns
returns c = record { stays = log_stays }

use Rattle.xfs_made.proofs.Lsns.{lsns_stand}
use Rattle.xfs_made.proofs.rendered.rendered_lsns_are_zero.Goals as goal

pub returns : goal.returns
returns c = lsns_stand

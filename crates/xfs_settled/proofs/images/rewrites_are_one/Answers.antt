use Rattle.xfs_settled.proofs.RewritesOnce.{rewrites_one}
use Rattle.xfs_settled.proofs.images.rewrites_are_one.Goals as goal

pub returns : goal.returns
returns c = rewrites_one

use Rattle.xfs_settled.proofs.Grounding.{ground_one}
use Rattle.xfs_settled.proofs.grounds.grounds_are_one.Goals as goal

pub returns : goal.returns
returns c = ground_one

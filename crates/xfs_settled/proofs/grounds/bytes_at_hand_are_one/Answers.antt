use Rattle.xfs_settled.proofs.Grounding.{bytes_one}
use Rattle.xfs_settled.proofs.grounds.bytes_at_hand_are_one.Goals as goal

pub returns : goal.returns
returns c = bytes_one

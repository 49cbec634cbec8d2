use Rattle.xfs_settled.proofs.ReplacedExtents.{extents_inside}
use Rattle.xfs_settled.proofs.replaced.gathered_extents_lie_inside.Goals as goal

pub returns : goal.returns
returns c = extents_inside

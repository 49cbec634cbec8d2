use Rattle.xfs_settled.proofs.ObjectBlocks.{object_one}
use Rattle.xfs_settled.proofs.objects.object_blocks_are_one.Goals as goal

pub returns : goal.returns
returns c = object_one

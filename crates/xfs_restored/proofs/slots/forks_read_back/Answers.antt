use Rattle.xfs_restored.proofs.Extents.{extents_back}
use Rattle.xfs_restored.proofs.slots.forks_read_back.Goals as goal

pub returns : goal.returns
returns c = extents_back

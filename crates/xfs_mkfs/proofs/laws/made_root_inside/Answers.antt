use Rattle.xfs_mkfs.proofs.Roots.{made_root}
use Rattle.xfs_mkfs.proofs.laws.made_root_inside.Goals as goal

pub returns : goal.returns
returns c = made_root

use Rattle.xfs_settled.proofs.Supers.{super_one}
use Rattle.xfs_settled.proofs.heads.superblocks_are_one.Goals as goal

pub returns : goal.returns
returns c = super_one

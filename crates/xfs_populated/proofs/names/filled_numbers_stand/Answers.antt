use Rattle.xfs_populated.proofs.NumbersStand.{numbers_stand}
use Rattle.xfs_populated.proofs.names.filled_numbers_stand.Goals as goal

pub returns : goal.returns
returns c = λ g ns contents files first holds. numbers_stand g ns first holds.chunks

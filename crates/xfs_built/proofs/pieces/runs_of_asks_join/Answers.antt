use Rattle.xfs_built.proofs.Joining.{joined_offsets}
use Rattle.xfs_built.proofs.pieces.runs_of_asks_join.Goals as goal

pub returns : goal.returns
returns c = joined_offsets

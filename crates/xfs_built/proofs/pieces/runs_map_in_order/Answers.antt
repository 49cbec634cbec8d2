use Rattle.xfs_built.proofs.Mapping.{runs_placed}
use Rattle.xfs_built.proofs.pieces.runs_map_in_order.Goals as goal

pub returns : goal.returns
returns c = runs_placed

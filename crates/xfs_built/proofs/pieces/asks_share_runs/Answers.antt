use Rattle.xfs_built.proofs.Fronts.{front_is}
use Rattle.xfs_built.proofs.pieces.asks_share_runs.Goals as goal

pub returns : goal.returns
returns c = front_is

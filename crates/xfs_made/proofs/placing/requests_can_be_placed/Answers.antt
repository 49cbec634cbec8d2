use Rattle.xfs_made.proofs.Writable.{can_be_kept}
use Rattle.xfs_made.proofs.placing.requests_can_be_placed.Goals as goal

pub returns : goal.returns
returns c = can_be_kept

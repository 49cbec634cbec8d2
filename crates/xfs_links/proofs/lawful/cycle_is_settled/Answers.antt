use Rattle.xfs_links.proofs.Cycle.{cycle_settled}
use Rattle.xfs_links.proofs.lawful.cycle_is_settled.Goals as goal

pub returns : goal.returns
returns c = cycle_settled

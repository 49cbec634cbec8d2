use Rattle.xfs_settled.proofs.LinkCounts.{links_low}
use Rattle.xfs_settled.proofs.links.settled_links_fit.Goals as goal

pub returns : goal.returns
returns c = links_low

use Rattle.xfs_made.proofs.PlansApart.{plans_apart, plans_fresh}
use Rattle.xfs_made.proofs.plans.plans_have_blocks_of_their_own.Goals as goal

pub returns-clause-once : goal.returns-clause-once
returns-clause-once c = plans_apart

pub returns-clause-fresh : goal.returns-clause-fresh
returns-clause-fresh c = plans_fresh

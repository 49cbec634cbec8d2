use Rattle.xfs_made.proofs.Once.{planned_once}
use Rattle.xfs_made.proofs.volumes.made_plans_plan_each_block_once.Goals as goal

pub returns : goal.returns
returns c = planned_once

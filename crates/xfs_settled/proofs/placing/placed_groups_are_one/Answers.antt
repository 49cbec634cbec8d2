use Rattle.xfs_settled.proofs.PlacedOnce.{blocks_one, chosen_one, group_one}
use Rattle.xfs_settled.proofs.placing.placed_groups_are_one.Goals as goal

pub returns-clause-chosen : goal.returns-clause-chosen
returns-clause-chosen c = chosen_one

pub returns-clause-blocks : goal.returns-clause-blocks
returns-clause-blocks c = blocks_one

pub returns-clause-group : goal.returns-clause-group
returns-clause-group c = group_one

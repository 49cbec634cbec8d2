use Rattle.xfs_views.proofs.Trees.{blocks_placed, records_lawful}
use Rattle.xfs_views.proofs.views.trees_are_lawful.Goals as goal

pub returns-clause-records : goal.returns-clause-records
returns-clause-records c d = records_lawful

pub returns-clause-blocks : goal.returns-clause-blocks
returns-clause-blocks c d = blocks_placed

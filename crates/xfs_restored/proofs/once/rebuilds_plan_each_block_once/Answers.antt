use Rattle.xfs_restored.proofs.Placed.{blocks_once}
use Rattle.xfs_restored.proofs.Standing.{left_rows_once}
use Rattle.xfs_restored.proofs.once.rebuilds_plan_each_block_once.Goals as goal

pub returns-clause-rebuilds : goal.returns-clause-rebuilds
returns-clause-rebuilds c = blocks_once

pub returns-clause-left : goal.returns-clause-left
returns-clause-left c = left_rows_once

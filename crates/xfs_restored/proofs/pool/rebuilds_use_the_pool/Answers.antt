use Rattle.xfs_restored.proofs.Placed.{all_inside, files_free, fresh_unused, in_place, log_left}
use Rattle.xfs_restored.proofs.pool.rebuilds_use_the_pool.Goals as goal

pub returns-clause-fresh : goal.returns-clause-fresh
returns-clause-fresh c = fresh_unused

pub returns-clause-in_place : goal.returns-clause-in_place
returns-clause-in_place c = in_place

pub returns-clause-log : goal.returns-clause-log
returns-clause-log c = log_left

pub returns-clause-inside : goal.returns-clause-inside
returns-clause-inside c = all_inside

pub returns-clause-claimed : goal.returns-clause-claimed
returns-clause-claimed c = files_free

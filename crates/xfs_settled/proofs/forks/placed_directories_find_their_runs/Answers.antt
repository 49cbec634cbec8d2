use Rattle.xfs_settled.proofs.ServedForks.{all_inside, all_low, all_served, all_sized}
use Rattle.xfs_settled.proofs.forks.placed_directories_find_their_runs.Goals as goal

pub returns-clause-counts : goal.returns-clause-counts
returns-clause-counts c = all_sized

pub returns-clause-served : goal.returns-clause-served
returns-clause-served c = all_served

pub returns-clause-low : goal.returns-clause-low
returns-clause-low c = all_low

pub returns-clause-inside : goal.returns-clause-inside
returns-clause-inside c = all_inside

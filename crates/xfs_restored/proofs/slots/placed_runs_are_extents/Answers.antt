use Rattle.xfs_restored.proofs.Placing.{all_fit, blocks_counted, runs_are_extents}
use Rattle.xfs_restored.proofs.slots.placed_runs_are_extents.Goals as goal

pub returns-clause-fit : goal.returns-clause-fit
returns-clause-fit c = all_fit

pub returns-clause-extents : goal.returns-clause-extents
returns-clause-extents c = runs_are_extents

pub returns-clause-count : goal.returns-clause-count
returns-clause-count c = blocks_counted

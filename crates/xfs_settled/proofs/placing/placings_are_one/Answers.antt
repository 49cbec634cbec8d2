use Rattle.xfs_settled.proofs.PlacedOnce.{counts_one, placed_one, placed_runs_one}
use Rattle.xfs_settled.proofs.placing.placings_are_one.Goals as goal

pub returns-clause-runs : goal.returns-clause-runs
returns-clause-runs c = placed_runs_one

pub returns-clause-groups : goal.returns-clause-groups
returns-clause-groups c = placed_one

pub returns-clause-counts : goal.returns-clause-counts
returns-clause-counts c = counts_one

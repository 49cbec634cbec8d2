use Rattle.xfs_restored.proofs.PlacedDirectories.{all_extents, few_extents}
use Rattle.xfs_restored.proofs.directories.rebuilt_runs_are_extents.Goals as goal

pub returns-clause-extents : goal.returns-clause-extents
returns-clause-extents c = all_extents

pub returns-clause-few : goal.returns-clause-few
returns-clause-few c = few_extents

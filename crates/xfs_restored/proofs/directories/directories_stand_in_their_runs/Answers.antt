use Rattle.xfs_rename.proofs.xfs_built.Standing.{directories_stand}
use Rattle.xfs_restored.proofs.directories.directories_stand_in_their_runs.Goals as goal

pub returns : goal.returns
returns c = directories_stand

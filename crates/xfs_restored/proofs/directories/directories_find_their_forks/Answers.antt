use Rattle.xfs_restored.proofs.ForkRuns.{all_find}
use Rattle.xfs_restored.proofs.directories.directories_find_their_forks.Goals as goal

pub returns : goal.returns
returns c = all_find

use Rattle.xfs_restored.proofs.Logs.{groups_rebuilt}
use Rattle.xfs_restored.proofs.rewritten_heads.rebuilt_groups_read.Goals as goal

pub returns : goal.returns
returns c = groups_rebuilt

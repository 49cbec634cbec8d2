use Rattle.xfs_restored.proofs.Restored.{says}
use Rattle.xfs_restored.proofs.volumes.restored_volumes_say_what_is_due.Goals as goal

pub returns : goal.returns
returns c = says

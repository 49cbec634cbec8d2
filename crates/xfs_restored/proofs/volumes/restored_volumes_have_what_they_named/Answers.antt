use Rattle.xfs_restored.proofs.Restored.{names_kept}
use Rattle.xfs_restored.proofs.volumes.restored_volumes_have_what_they_named.Goals as goal

pub returns : goal.returns
returns c = names_kept

use Rattle.xfs_restored.proofs.Lawful.{names_kept}
use Rattle.xfs_restored.proofs.names.restored_names_are_lawful.Goals as goal

pub returns : goal.returns
returns c = names_kept

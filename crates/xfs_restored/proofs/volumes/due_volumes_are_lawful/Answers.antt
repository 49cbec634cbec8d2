use Rattle.xfs_restored.proofs.Lawful.{lawful}
use Rattle.xfs_restored.proofs.volumes.due_volumes_are_lawful.Goals as goal

pub returns : goal.returns
returns c = lawful

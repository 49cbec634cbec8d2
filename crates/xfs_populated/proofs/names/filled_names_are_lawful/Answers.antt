use Rattle.xfs_populated.proofs.DueNames.{due_names_kept}
use Rattle.xfs_populated.proofs.names.filled_names_are_lawful.Goals as goal

pub returns : goal.returns
returns c = due_names_kept

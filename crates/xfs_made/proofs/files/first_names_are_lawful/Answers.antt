use Rattle.xfs_made.proofs.FirstNames.{names_kept}
use Rattle.xfs_made.proofs.files.first_names_are_lawful.Goals as goal

pub returns : goal.returns
returns c = names_kept

use Rattle.xfs_restored.proofs.NamesLawful.{names_kept}
use Rattle.xfs_restored.proofs.due_names.renamed_names_are_lawful.Goals as goal

pub returns : goal.returns
returns c = λ g sector s image now e n r has. names_kept g sector s image now e n r has

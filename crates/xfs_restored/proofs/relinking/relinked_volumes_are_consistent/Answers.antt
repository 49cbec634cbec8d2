use Rattle.xfs_restored.proofs.Relinked.{consistent_renamed, kept_renamed, names_wanted}
use Rattle.xfs_restored.proofs.relinking.relinked_volumes_are_consistent.Goals as goal

pub returns-clause-consistent : goal.returns-clause-consistent
returns-clause-consistent c = λ g sector s image now e n r elected is. consistent_renamed g sector s image now e n r is

pub returns-clause-keeps : goal.returns-clause-keeps
returns-clause-keeps c = λ g sector s image now e n r elected is ino safe. kept_renamed g sector s image now e n r is ino safe

pub returns-clause-names : goal.returns-clause-names
returns-clause-names c = names_wanted

use Rattle.xfs_restored.proofs.DirectoriesDue.{dirs_are_read, entries_are_read}
use Rattle.xfs_restored.proofs.due_directories.renamed_directories_read.Goals as goal

pub returns-clause-entries : goal.returns-clause-entries
returns-clause-entries c = entries_are_read

pub returns-clause-dirs : goal.returns-clause-dirs
returns-clause-dirs c = dirs_are_read

use Rattle.xfs_restored.proofs.DueDirectories.{due_dirs_are, due_entries}
use Rattle.xfs_restored.proofs.kept_directories.rewritten_directories_read.Goals as goal

pub returns-clause-entries : goal.returns-clause-entries
returns-clause-entries c = λ g s image now kept seen crc has are. due_entries g s image now kept seen has crc are

pub returns-clause-dirs : goal.returns-clause-dirs
returns-clause-dirs c = λ g s image now kept seen crc has are. due_dirs_are g s image now kept seen has crc are

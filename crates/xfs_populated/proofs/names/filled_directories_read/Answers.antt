use Rattle.xfs_populated.proofs.DirectoriesRead.{directory_reads}
use Rattle.xfs_populated.proofs.DueDirectories.{dirs_are, entries_are}
use Rattle.xfs_populated.proofs.names.filled_directories_read.Goals as goal

pub returns-clause-each : goal.returns-clause-each
returns-clause-each c = directory_reads

pub returns-clause-entries : goal.returns-clause-entries
returns-clause-entries c = entries_are

pub returns-clause-dirs : goal.returns-clause-dirs
returns-clause-dirs c = dirs_are

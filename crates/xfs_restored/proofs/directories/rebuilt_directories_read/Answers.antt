use Rattle.xfs_restored.proofs.Planned.{all_read, all_stand, holds_built}
use Rattle.xfs_restored.proofs.directories.rebuilt_directories_read.Goals as goal

pub returns-clause-held : goal.returns-clause-held
returns-clause-held c = holds_built

pub returns-clause-stands : goal.returns-clause-stands
returns-clause-stands c = all_stand

pub returns-clause-reads : goal.returns-clause-reads
returns-clause-reads c = all_read

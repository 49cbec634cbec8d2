use Rattle.xfs_made.proofs.FirstClusters.{inodes_are_first}
use Rattle.xfs_made.proofs.FirstReads.{files_are, no_entries, root_whole}
use Rattle.xfs_geom.specs.Volumes.{volume_of}
use Rattle.xfs_made.specs.Files.{slot_crc}
use Rattle.xfs_made.proofs.files.first_files_read.Goals as goal

pub returns-clause-inodes : goal.returns-clause-inodes
returns-clause-inodes c = λ g groups agf_crc agi_crc first. inodes_are_first g groups agf_crc agi_crc

pub returns-clause-files : goal.returns-clause-files
returns-clause-files c = λ g s image groups first slots inodes. files_are (volume_of g) s image groups slots inodes

pub returns-clause-entries : goal.returns-clause-entries
returns-clause-entries c = λ g s image first slots. no_entries (volume_of g) s image (slot_crc (volume_of g) image) slots

pub returns-clause-dirs : goal.returns-clause-dirs
returns-clause-dirs c = λ g s image first slots. root_whole (volume_of g) s image (slot_crc (volume_of g) image) slots

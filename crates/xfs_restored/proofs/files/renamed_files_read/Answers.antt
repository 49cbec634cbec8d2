use Rattle.xfs_restored.proofs.FilesDue.{files_are}
use Rattle.xfs_restored.proofs.KnownJoined.{all_known}
use Rattle.xfs_restored.proofs.files.renamed_files_read.Goals as goal

pub returns : goal.returns
returns c = λ g sector s image now e n r has groups inodes. files_are g sector s image now e n r has (all_known g sector s image now e n r has) groups inodes

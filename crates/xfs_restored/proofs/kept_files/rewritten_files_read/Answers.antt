use Rattle.xfs_restored.proofs.DueList.{files_are}
use Rattle.xfs_restored.proofs.kept_files.rewritten_files_read.Goals as goal

pub returns : goal.returns
returns c = λ g s image now kept seen groups has inodes. files_are g s image now kept seen has groups inodes

use Rattle.xfs_views.proofs.FilesStay.{file_kept, protected_kept}
use Rattle.xfs_views.proofs.staying_files.unchanged_files_are_kept.Goals as goal

pub returns-clause-file : goal.returns-clause-file
returns-clause-file c = file_kept

pub returns-clause-protected : goal.returns-clause-protected
returns-clause-protected c = protected_kept

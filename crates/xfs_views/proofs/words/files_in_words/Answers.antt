use Rattle.xfs_views.proofs.FileReads.{file_both}
use Rattle.xfs_views.proofs.words.files_in_words.Goals as goal

pub returns : goal.returns
returns c = record { file = file_both }

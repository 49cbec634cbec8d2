use Rattle.xfs_views.proofs.FilesStay.{named_claimed}
use Rattle.xfs_views.proofs.staying_files.files_claim_what_they_name.Goals as goal

pub returns : goal.returns
returns c = record { claimed = named_claimed }

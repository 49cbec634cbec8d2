use Rattle.xfs_views.proofs.FilesStay.{bytes_stay}
use Rattle.xfs_views.proofs.staying_files.bytes_stay.Goals as goal

pub returns : goal.returns
returns c = record { bytes = bytes_stay }

use Rattle.xfs_geom.specs.Volumes.{volume_of}
use Rattle.xfs_image.specs.Candidates.{candidates}
use Rattle.xfs_image.specs.Claims.{candidate_files}
use Rattle.xfs_made.proofs.xfs_views.Members.{contains}
use Rattle.xfs_request.specs.xfs_salvage.Kept.{kept_files}
use Rattle.xfs_made.proofs.Protected.{protected_cluster, protected_stays}
use Rattle.xfs_made.proofs.staying.protected_files_stay.Goals as goal

pub returns-clause-file : goal.returns-clause-file
returns-clause-file c = λ g image ino is.
    contains is.file (kept_files (volume_of g) (candidates (volume_of g) image) (candidate_files (volume_of g) image)) (protected_stays g image ino is)

pub returns-clause-cluster : goal.returns-clause-cluster
returns-clause-cluster c = protected_cluster

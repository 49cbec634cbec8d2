use Rattle.xfs_views.proofs.Claimed.{by_lists, from_lists}
use Rattle.xfs_views.proofs.claims.protected_files_by_lists.Goals as goal

pub returns : goal.returns
returns c = λ v image ino. (by_lists v image ino, from_lists v image ino)

use Rattle.xfs_settled.proofs.ImagesJoined.{rebuilds_one}
use Rattle.xfs_settled.proofs.images.rebuilt_images_are_one.Goals as goal

pub returns : goal.returns
returns c = λ g sector s image now other e f r q te ie new whole tf jf next entire.
    (rebuilds_one g sector s image now other e f r q te ie new whole tf jf next entire).image'

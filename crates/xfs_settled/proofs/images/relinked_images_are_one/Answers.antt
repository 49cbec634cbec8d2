use Rattle.xfs_settled.proofs.NamesJoined.{relinked_one}
use Rattle.xfs_settled.proofs.images.relinked_images_are_one.Goals as goal

pub returns : goal.returns
returns c = λ g sector s image now other e f n m r q a whole b entire.
    (relinked_one g sector s image now other e f n m r q a whole b entire).image'

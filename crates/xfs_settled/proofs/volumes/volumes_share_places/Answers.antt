use Rattle.xfs_settled.proofs.Sharing.{place_one}
use Rattle.xfs_settled.proofs.volumes.volumes_share_places.Goals as goal

pub returns : goal.returns
returns c = λ w p b super other one two ready. place_one w p b super other one two ready.slots

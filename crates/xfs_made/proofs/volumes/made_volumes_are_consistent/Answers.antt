use Rattle.xfs_made.proofs.Made.{volume_made}
use Rattle.xfs_made.proofs.volumes.made_volumes_are_consistent.Goals as goal

pub returns : goal.returns
returns c = volume_made

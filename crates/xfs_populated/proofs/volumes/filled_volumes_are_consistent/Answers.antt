use Rattle.xfs_populated.proofs.VolumesFilled.{volume_filled}
use Rattle.xfs_populated.proofs.volumes.filled_volumes_are_consistent.Goals as goal

pub returns : goal.returns
returns c = volume_filled

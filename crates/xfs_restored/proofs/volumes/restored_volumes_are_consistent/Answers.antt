use Rattle.xfs_restored.proofs.Restored.{consistent}
use Rattle.xfs_restored.proofs.Sizes.{elected_fits}
use Rattle.xfs_restored.proofs.volumes.restored_volumes_are_consistent.Goals as goal

pub returns : goal.returns
returns c = λ g sector s image now e r told elected is new. consistent g sector s image now e r told is (record { enough = elected_fits g image elected; is = new })

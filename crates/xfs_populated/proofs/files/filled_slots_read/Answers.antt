use Rattle.xfs_populated.proofs.FilesLinked.{link_blocks}
use Rattle.xfs_populated.proofs.SlotTargets.{slots_due}
use Rattle.xfs_populated.proofs.files.filled_slots_read.Goals as goal

pub returns : goal.returns
returns c = λ g sector s ns contents plan blocks image is. slots_due g sector s ns contents plan blocks image is (link_blocks g sector s ns contents plan blocks image is)

use Rattle.xfs_populated.proofs.SlotStanding.{slots_are_made}
use Rattle.xfs_populated.proofs.files.filled_slots_are_made.Goals as goal

pub returns : goal.returns
returns c = slots_are_made

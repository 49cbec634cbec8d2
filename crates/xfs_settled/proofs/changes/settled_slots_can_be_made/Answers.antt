use Rattle.xfs_settled.proofs.SlotChanges.{slots_can_be}
use Rattle.xfs_settled.proofs.changes.settled_slots_can_be_made.Goals as goal

pub returns : goal.returns
returns c = slots_can_be

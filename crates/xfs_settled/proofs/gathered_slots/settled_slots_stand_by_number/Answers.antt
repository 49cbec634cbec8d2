use Rattle.xfs_settled.proofs.SlotOrder.{slots_stand}
use Rattle.xfs_settled.proofs.gathered_slots.settled_slots_stand_by_number.Goals as goal

pub returns : goal.returns
returns c = slots_stand

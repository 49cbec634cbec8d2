use Rattle.xfs_restored.proofs.SlotsDue.{slots_due}
use Rattle.xfs_restored.proofs.rewritten_images.rebuilt_slots_are_due.Goals as goal

pub returns : goal.returns
returns c = slots_due

use Rattle.xfs_made.proofs.Slots.{slots_stand}
use Rattle.xfs_made.proofs.rendered.rendered_slots_stand.Goals as goal

pub returns : goal.returns
returns c = slots_stand

use Rattle.xfs_restored.proofs.Room.{links_ascend}
use Rattle.xfs_restored.proofs.plans.links_leave_room.Goals as goal

pub returns : goal.returns
returns c = links_ascend

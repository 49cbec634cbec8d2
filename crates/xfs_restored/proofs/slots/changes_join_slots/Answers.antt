use Rattle.xfs_restored.proofs.Changing.{changes_wanted}
use Rattle.xfs_restored.proofs.slots.changes_join_slots.Goals as goal

pub returns : goal.returns
returns c = changes_wanted

use Rattle.xfs_settled.proofs.SlotChains.{cluster_one, made_one}
use Rattle.xfs_settled.proofs.slots.wanted_slots_are_one.Goals as goal

pub returns-clause-slot : goal.returns-clause-slot
returns-clause-slot c = made_one

pub returns-clause-block : goal.returns-clause-block
returns-clause-block c = cluster_one

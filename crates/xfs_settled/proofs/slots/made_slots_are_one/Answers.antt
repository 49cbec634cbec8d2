use Rattle.xfs_settled.proofs.SlotBytes.{free_one, fresh_one}
use Rattle.xfs_settled.proofs.slots.made_slots_are_one.Goals as goal

pub returns-clause-free : goal.returns-clause-free
returns-clause-free c = free_one

pub returns-clause-fresh : goal.returns-clause-fresh
returns-clause-fresh c = fresh_one

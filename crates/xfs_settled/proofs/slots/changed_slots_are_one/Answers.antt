use Rattle.xfs_settled.proofs.SlotBytes.{attrs_one, fork_one, links_one}
use Rattle.xfs_settled.proofs.slots.changed_slots_are_one.Goals as goal

pub returns-clause-attrs : goal.returns-clause-attrs
returns-clause-attrs c = attrs_one

pub returns-clause-fork : goal.returns-clause-fork
returns-clause-fork c = fork_one

pub returns-clause-links : goal.returns-clause-links
returns-clause-links c = links_one

use Rattle.xfs_restored.proofs.DueSlots.{slots_due, stands}
use Rattle.xfs_restored.proofs.plans.renamed_slots_are_due.Goals as goal

pub returns-clause-stands : goal.returns-clause-stands
returns-clause-stands c = stands

pub returns-clause-slots : goal.returns-clause-slots
returns-clause-slots c = slots_due

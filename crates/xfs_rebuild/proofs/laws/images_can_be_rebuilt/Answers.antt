use Rattle.xfs_rebuild.proofs.DueNames.{due_named}
use Rattle.xfs_rebuild.proofs.Images.{bare_ascend, facts_are_many, slots_by_inode, slots_pass}
use Rattle.xfs_rebuild.proofs.KeptNames.{kept_named}
use Rattle.xfs_rebuild.proofs.laws.images_can_be_rebuilt.Goals as goal

pub returns-clause-facts : goal.returns-clause-facts
returns-clause-facts c = facts_are_many

pub returns-clause-bare : goal.returns-clause-bare
returns-clause-bare c = bare_ascend

pub returns-clause-seen : goal.returns-clause-seen
returns-clause-seen c = slots_by_inode

pub returns-clause-slots : goal.returns-clause-slots
returns-clause-slots c = slots_pass

pub returns-clause-named : goal.returns-clause-named
returns-clause-named c = kept_named

pub returns-clause-due : goal.returns-clause-due
returns-clause-due c = due_named

use Rattle.xfs_restored.proofs.KeptSlots.{kept_blocks, kept_bytes, kept_short}
use Rattle.xfs_restored.proofs.slots.rebuilt_slots_read.Goals as goal

pub returns-clause-blocks : goal.returns-clause-blocks
returns-clause-blocks c = kept_blocks

pub returns-clause-short : goal.returns-clause-short
returns-clause-short c = kept_short

pub returns-clause-bytes : goal.returns-clause-bytes
returns-clause-bytes c = kept_bytes

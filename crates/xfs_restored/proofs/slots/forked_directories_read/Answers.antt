use Rattle.xfs_restored.proofs.ForkedSlots.{forked_blocks, forked_short}
use Rattle.xfs_restored.proofs.slots.forked_directories_read.Goals as goal

pub returns-clause-blocks : goal.returns-clause-blocks
returns-clause-blocks c = forked_blocks

pub returns-clause-short : goal.returns-clause-short
returns-clause-short c = forked_short

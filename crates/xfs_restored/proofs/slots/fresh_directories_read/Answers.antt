use Rattle.std.proofs.Common.{unwrap_or}
use Rattle.xfs_rename.specs.xfs_changes.Forks.{extents_fork, short_fork}
use Rattle.xfs_restored.proofs.FreshSlots.{fresh_blocks, fresh_made, fresh_short}
use Rattle.xfs_restored.proofs.slots.fresh_directories_read.Goals as goal

pub returns-clause-bytes : goal.returns-clause-bytes
returns-clause-bytes c = λ v generation core fork nlink old slot is made. (fresh_made v core fork is.last generation nlink old slot made).put

pub returns-clause-short : goal.returns-clause-short
returns-clause-short c = λ v image generation core b nlink old slot is made.
    fresh_short v image core (unwrap_or nlink core.nlink) slot is b (fresh_made v core (short_fork 0 b) is.last generation nlink old slot made)

pub returns-clause-blocks : goal.returns-clause-blocks
returns-clause-blocks c = λ v image generation core b runs nlink old slot is made.
    fresh_blocks v image core (unwrap_or nlink core.nlink) slot is b runs (fresh_made v core (extents_fork v 0 runs b) is.last generation nlink old slot made)

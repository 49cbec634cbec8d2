use Rattle.xfs_made.proofs.Makeable.{slots_can}
use Rattle.xfs_made.proofs.Spaced.{slots_in_order}
use Rattle.xfs_made.proofs.Writable.{writable}
use Rattle.xfs_made.proofs.rendering.requests_can_be_rendered.Goals as goal

pub returns-clause-wanted : goal.returns-clause-wanted
returns-clause-wanted c = writable

pub returns-clause-slots : goal.returns-clause-slots
returns-clause-slots c = slots_in_order

pub returns-clause-made : goal.returns-clause-made
returns-clause-made c = slots_can

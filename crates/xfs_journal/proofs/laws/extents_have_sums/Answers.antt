use Rattle.xfs_journal.proofs.Sums.{blocks_end, offsets_end}
use Rattle.xfs_journal.proofs.laws.extents_have_sums.Goals as goal

pub returns-clause-blocks : goal.returns-clause-blocks
returns-clause-blocks c = blocks_end

pub returns-clause-offsets : goal.returns-clause-offsets
returns-clause-offsets c = offsets_end

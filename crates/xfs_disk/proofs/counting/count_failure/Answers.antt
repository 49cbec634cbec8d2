use Rattle.std.proofs.Common.{rules}
use Rattle.xfs_disk.proofs.counting.count_failure.Goals as goal

pub returns-clause-risen : goal.returns-clause-risen
returns-clause-risen c = search rules

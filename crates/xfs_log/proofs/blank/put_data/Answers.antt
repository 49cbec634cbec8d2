use Rattle.std.proofs.Common.{rules}
use Rattle.xfs_log.proofs.blank.put_data.Goals as goal

pub returns : goal.returns
returns c = search rules

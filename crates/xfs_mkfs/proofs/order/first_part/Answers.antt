use Rattle.xfs_mkfs.proofs.Rows.{behind_first}
use Rattle.xfs_mkfs.proofs.order.first_part.Goals as goal

pub returns : goal.returns
returns c = behind_first c.args.rows.now c.min.result c.min.ensures

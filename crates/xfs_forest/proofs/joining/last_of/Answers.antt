use Rattle.std.proofs.Common.{rules, length, ◌-◌, sym}
use Rattle.xfs_forest.proofs.Trees.{last_at}
use Rattle.xfs_forest.proofs.joining.last_of.Goals as goal

pub returns-else-is_empty : goal.returns-else-is_empty
returns-else-is_empty g c =
    sym (last_at c.args.before c.args.records.now c.index-records-records.result (length c.args.records.now - 1) (search rules) c.index-records-records.is)

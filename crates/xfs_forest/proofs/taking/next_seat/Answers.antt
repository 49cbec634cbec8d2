use Rattle.std.proofs.Common.{rules}
use Rattle.xfs_tree.proofs.RowSteps.{left_from}
use Rattle.xfs_forest.proofs.taking.next_seat.Goals as goal

pub returns-clause-next : goal.returns-clause-next
returns-clause-next g c =
    record {
      more = c.requires.more;
      next = left_from c.args.tree.now.row.items c.args.tree.now.at c.index-seat.result.now c.requires.more (search rules);
      inside = c.place_rule.ensures.inside;
      fresh = c.place_rule.ensures.fresh;
    }

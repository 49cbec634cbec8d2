use Rattle.xfs_dirindex.proofs.Compared.{compared}
use Rattle.xfs_dirindex.proofs.same.same_pairs.Goals as goal

pub returns : goal.returns
returns c = compared c.args.xs.now c.args.ys.now c.in_ok-a.a.items c.in_ok-b.b.items c.eq.result c.in_ok-a.ensures.moved c.in_ok-b.ensures.moved c.in_ok-a.ensures.ranked c.in_ok-b.ensures.ranked c.eq.ensures

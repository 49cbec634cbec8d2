use Rattle.std.proofs.Common.{◌<◌, get_or, arith}
use Rattle.xfs_place.proofs.Branches.{all_small}
use Rattle.xfs_place.proofs.greatest.Greatest.first.Goals as goal

pub returns-then-greatest-least : goal.returns-then-greatest-least
returns-then-greatest-least c =
    let all = c.args.self.now in
    let small : get_or all.nodes.items 1 0 < c.args.least = omega (arith, c.greatest.ensures, c.if-greatest-least.true) in
    record { first = (small, all_small all.nodes.items all.leaves all.depth c.args.least c.requires.stands small) }

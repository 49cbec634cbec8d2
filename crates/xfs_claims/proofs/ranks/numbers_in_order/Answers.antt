use Rattle.std.proofs.lemmas.List.Sorted.{IsNonDecreasingBy-from_sort}
use Rattle.xfs_claims.specs.Ranks.{own_number}
use Rattle.xfs_claims.proofs.Ordered.{in_order, rises}
use Rattle.xfs_claims.proofs.ranks.numbers_in_order.Goals as goal

pub returns : goal.returns
returns g c =
    in_order own_number c.args.numbers.items c.sorted.result.items c.sorted.ensures.moved
    (rises own_number c.sorted.result.items (IsNonDecreasingBy-from_sort own_number c.sorted.result.items c.sorted.ensures.ascending)) c.requires

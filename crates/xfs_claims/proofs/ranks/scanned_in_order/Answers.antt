use Rattle.std.proofs.Common.{ℕ, List, sym, ◌∙◌, ap, subst}
use Rattle.std.specs.List.{filter}
use Rattle.xfs_claims.specs.Ranks.{by_number, own_number, first_block, is_scanned_cluster, AreDifferent}
use Rattle.xfs_claims.proofs.Ordered.{filter_differ, map_differ}
use Rattle.xfs_claims.proofs.ranks.scanned_in_order.Goals as goal

pub numbers_in_order-requires-after_bounds : goal.numbers_in_order-requires-after_bounds
numbers_in_order-requires-after_bounds g c κs within =
    subst (λ (x : List ℕ). AreDifferent own_number x) (sym c.in_ok-blocks.ensures)
    (map_differ first_block (filter is_scanned_cluster c.args.clusters.now) (filter_differ first_block is_scanned_cluster c.args.clusters.now c.requires))

pub returns : goal.returns
returns g c = c.numbers_in_order.ensures ∙ ap (by_number own_number) c.in_ok-blocks.ensures

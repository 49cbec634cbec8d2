use Rattle.std.proofs.Common.{rules, List, subst}
use Rattle.std.specs.List.Sorted.{IsPermutation}
use Rattle.std.proofs.lemmas.List.Sorted.{IsNonDecreasingBy-from_sort_by_key}
use Rattle.xfs_writing.specs.declared.rows.Row.{Row}
use Rattle.xfs_render.proofs.arranging.sort_rows.Goals as goal

pub returns-clause-same : goal.returns-clause-same
returns-clause-same c = subst (λ (xs : List Row). IsPermutation xs c.sort_by_key.new.self.items) c.in_ok-sorted.ensures.items c.in_ok-sort_by_key.ensures.permutation

pub returns-clause-ascend : goal.returns-clause-ascend
returns-clause-ascend c =
    IsNonDecreasingBy-from_sort_by_key (λ (r : Row). r.at) c.sort_by_key.new.self.items c.in_ok-sort_by_key.ensures.sorted (λ a r q k. search rules)

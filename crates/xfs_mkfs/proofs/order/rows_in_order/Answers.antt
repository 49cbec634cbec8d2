use Rattle.std.proofs.Common.{List, rules, subst}
use Rattle.std.specs.List.Sorted.{IsPermutation}
use Rattle.std.proofs.lemmas.List.Sorted.{IsNonDecreasingBy-from_sort_by_key}
use Rattle.xfs_writing.specs.declared.rows.Row.{Row}
use Rattle.xfs_mkfs.proofs.order.rows_in_order.Goals as goal

pub returns : goal.returns
returns c =
    record {
      all = subst (λ (rs : List Row). IsPermutation rs c.sort_by_key.new.self.items) c.in_ok-rows.ensures c.in_ok-sort_by_key.ensures.permutation;
      ascend = IsNonDecreasingBy-from_sort_by_key (λ (r : Row). r.at) c.sort_by_key.new.self.items c.in_ok-sort_by_key.ensures.sorted (λ a r q k. search rules);
    }

use Rattle.std.proofs.Common.{List, subst, rules}
use Rattle.std.specs.List.Sorted.{IsPermutation}
use Rattle.std.proofs.lemmas.List.Sorted.{IsNonDecreasingBy-from_sort_by_key}
use Rattle.xfs_names.specs.declared.linking.Target.{Target}
use Rattle.xfs_names.proofs.Counted.{targeted}
use Rattle.xfs_names.proofs.linking.targets_of.Goals as goal

pub returns : goal.returns
returns c = targeted c.args.entries.now c.sort_by_key.new.self.items
    (IsNonDecreasingBy-from_sort_by_key (λ (t : Target). t.ino) _ c.in_ok-sort_by_key.ensures.sorted (λ a r q k. search rules))
    (subst (λ (ts : List Target). IsPermutation ts c.sort_by_key.new.self.items) c.in_ok-targets.ensures c.sort_by_key.ensures.permutation)

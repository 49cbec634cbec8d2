use Rattle.std.proofs.Common.{List, subst, rules}
use Rattle.std.specs.List.Sorted.{IsPermutation}
use Rattle.std.proofs.lemmas.List.Sorted.{IsNonDecreasingBy-from_sort_by_key}
use Rattle.xfs_naming.specs.declared.runs.Link.{Link}
use Rattle.xfs_naming.proofs.Linked.{linked}
use Rattle.xfs_naming.proofs.linking.links_of.Goals as goal

pub returns-clause-rise : goal.returns-clause-rise
returns-clause-rise c = IsNonDecreasingBy-from_sort_by_key (λ (l : Link). l.target) _ c.in_ok-sort_by_key.ensures.sorted (λ a r q k. search rules)

pub returns-clause-linked : goal.returns-clause-linked
returns-clause-linked c =
    linked c.args.entries.now c.sort_by_key.new.self.items (subst (λ (ls : List Link). IsPermutation ls c.sort_by_key.new.self.items) c.in_ok-links.ensures c.sort_by_key.ensures.permutation)

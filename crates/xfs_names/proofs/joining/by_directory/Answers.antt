use Rattle.std.proofs.Common.{◌≡◌, ◌∙◌, rules, sym, ap, subst, true, List}
use Rattle.std.specs.List.{All}
use Rattle.std.proofs.lemmas.List.Sorted.{IsNonDecreasingBy-from_sort_by_key, All-permutation, answers_always}
use Rattle.xfs_collections.specs.Lists.{has_node}
use Rattle.xfs_dirdata.specs.declared.records.EntryRec.{EntryRec}
use Rattle.xfs_links.specs.Connected.{directory_numbers}
use Rattle.xfs_links.specs.Settled.{by_directory as each_directory}
use Rattle.xfs_names.proofs.ByNumber.{directories_ascend}
use Rattle.xfs_names.proofs.Grouping.{grouped, stays_in}
use Rattle.xfs_names.proofs.joining.by_directory.Goals as goal

pub returns-clause-rise : goal.returns-clause-rise
returns-clause-rise c = IsNonDecreasingBy-from_sort_by_key (λ (e : EntryRec). e.dir) _ c.in_ok-sort_by_key.ensures.sorted (λ a r q k. search rules)

pub returns-clause-grouped : goal.returns-clause-grouped
returns-clause-grouped c =
    let dirs = directory_numbers c.args.nodes.now in
    let known = subst (λ (es : List EntryRec). All (λ (e : EntryRec). has_node e.dir dirs ≡ true) es) (sym c.in_ok-all.ensures) c.requires.known in
    grouped c.in_ok-all.all.items c.sort_by_key.new.self.items dirs
    (IsNonDecreasingBy-from_sort_by_key (λ (e : EntryRec). e.dir) _ c.in_ok-sort_by_key.ensures.sorted (λ a r q k. search rules))
    (stays_in c.in_ok-all.all.items c.sort_by_key.new.self.items (c.in_ok-sort_by_key.ensures.stable (λ (e : EntryRec). e.dir) (answers_always _ _ _ (λ f a r g called. search rules))))
    (directories_ascend 0 c.args.nodes.now c.requires.nodes)
    (All-permutation (λ (e : EntryRec). has_node e.dir dirs ≡ true) c.in_ok-all.all.items c.sort_by_key.new.self.items c.sort_by_key.ensures.permutation known)
    ∙ ap (λ (es : List EntryRec). each_directory es dirs) c.in_ok-all.ensures

use Rattle.std.proofs.Common.{◌≡◌, ◌∙◌, ◌<◌, ◌≤◌, ◌^◌, sym, subst, true, map, List, arith, length}
use Rattle.std.proofs.lemmas.Result.{IfOk-weaker}
use Rattle.std.specs.List.Sorted.{IsNonDecreasingBy}
use Rattle.std.specs.List.{All}
use Rattle.xfs_collections.specs.Lists.{has_node}
use Rattle.xfs_dirdata.specs.declared.records.EntryRec.{EntryRec}
use Rattle.xfs_links.specs.declared.records.NodeRec.{NodeRec}
use Rattle.xfs_links.specs.Entries.{NodesAscend}
use Rattle.xfs_links.specs.Connected.{directory_numbers}
use Rattle.xfs_names.specs.Built.{CanBeBuilt}
use Rattle.xfs_names.specs.Wanted.{wanted_entries, wanted_links, wanted_nodes, wanted_parents, with_links}
use Rattle.xfs_names.specs.Rebuilt.{rebuilt_among, wanted_rebuilt}
use Rattle.xfs_names.specs.declared.records.WantedNames.{WantedNames}
use Rattle.xfs_names.specs.Private.Named.{AreNamesOf}
use Rattle.xfs_names.specs.Pairs.{PairsAscend}
use Rattle.xfs_names.specs.Private.Joined.{joined, told_parents}
use Rattle.xfs_names.proofs.Buildable.{buildable}
use Rattle.xfs_names.proofs.Rising.{listed_rise, dirs_rise}
use Rattle.xfs_names.proofs.Deciding.{nodes_from, nodes_ascend, entries_from, joined_are, together_known, parents_ascend, parents_wanted}
use Rattle.xfs_names.proofs.wanting.want_names.Goals as goal

pub all_parents-requires : goal.all_parents-requires
all_parents-requires c = subst (PairsAscend 0) (sym c.as_slice-2.ensures) (parents_ascend c.args.nodes.now c.args.listed.now c.args.root c.args.new c.args.names c.requires.nodes.ascend c.requires.names)

pub all_entries-requires-clause-nodes : goal.all_entries-requires-clause-nodes
all_entries-requires-clause-nodes c = subst (NodesAscend 0) (sym (c.deref-2.ensures.value ∙ nodes_from c.args.nodes.now c.args.listed.now c.args.root c.args.new c.args.names c.requires.names c.is_new-adds.result c.as_slice.result.now c.in_ok-all.all.items c.is_new-adds.ensures c.as_slice.ensures c.in_ok-all.ensures)) (nodes_ascend c.args.nodes.now c.args.listed.now c.args.root c.args.new c.requires.nodes.ascend c.requires.new)

pub all_entries-requires-clause-known : goal.all_entries-requires-clause-known
all_entries-requires-clause-known c =
    subst (λ (ns : List NodeRec). All (λ (e : EntryRec). has_node e.dir (directory_numbers ns) ≡ true) (joined c.args.names.entries c.args.names.orphans c.args.root c.args.names.lost c.args.new)) (sym (c.deref-2.ensures.value ∙ nodes_from c.args.nodes.now c.args.listed.now c.args.root c.args.new c.args.names c.requires.names c.is_new-adds.result c.as_slice.result.now c.in_ok-all.all.items c.is_new-adds.ensures c.as_slice.ensures c.in_ok-all.ensures))
    (subst (λ (es : List EntryRec). All (λ (e : EntryRec). has_node e.dir (directory_numbers (wanted_nodes c.args.nodes.now c.args.listed.now c.args.root c.args.new)) ≡ true) es) (sym (joined_are c.args.nodes.now c.args.listed.now c.args.root c.args.new c.args.names c.requires.names))
    (together_known c.args.nodes.now c.args.listed.now c.args.root c.args.new c.requires.listed c.requires.root))

pub join_names-requires : goal.join_names-requires
join_names-requires c = record {
  nodes = subst (NodesAscend 0) (sym (c.deref-3.ensures.value ∙ nodes_from c.args.nodes.now c.args.listed.now c.args.root c.args.new c.args.names c.requires.names c.is_new-adds.result c.as_slice.result.now c.in_ok-all.all.items c.is_new-adds.ensures c.as_slice.ensures c.in_ok-all.ensures)) (nodes_ascend c.args.nodes.now c.args.listed.now c.args.root c.args.new c.requires.nodes.ascend c.requires.new);
  listed = listed_rise c.args.listed.now c.requires.listed.group;
  dirs = dirs_rise c.args.dirs.now c.requires.dirs;
  root = c.requires.low;
  few = c.in_ok-entries.ensures.few;
  rise = c.in_ok-entries.ensures.rise;
}

pub returns-clause-few : goal.returns-clause-few
returns-clause-few c =
    IfOk-weaker c.join_names.result (AreNamesOf c.deref-3.result.now c.args.listed.now c.args.dirs.now c.args.root c.in_ok-entries.entries c.in_ok-parents.parents) (λ (w : WantedNames). length w.entries ≤ 2 ^ 24)
    (λ w is. subst (λ (es : List EntryRec). length es ≤ 2 ^ 24) (sym is.entries') c.in_ok-entries.ensures.few) c.join_names.ensures

pub returns-clause-entries : goal.returns-clause-entries
returns-clause-entries c =
    let due = entries_from c.args.nodes.now c.args.listed.now c.args.root c.args.new c.args.names c.requires.names c.deref-2.result.now c.in_ok-entries.entries (c.deref-2.ensures.value ∙ nodes_from c.args.nodes.now c.args.listed.now c.args.root c.args.new c.args.names c.requires.names c.is_new-adds.result c.as_slice.result.now c.in_ok-all.all.items c.is_new-adds.ensures c.as_slice.ensures c.in_ok-all.ensures) c.in_ok-entries.ensures.entries in
    IfOk-weaker c.join_names.result (AreNamesOf c.deref-3.result.now c.args.listed.now c.args.dirs.now c.args.root c.in_ok-entries.entries c.in_ok-parents.parents) (λ (w : WantedNames). w.entries ≡ wanted_entries c.args.nodes.now c.args.listed.now c.args.root c.args.new) (λ w is. is.entries' ∙ due) c.join_names.ensures

pub returns-clause-parents : goal.returns-clause-parents
returns-clause-parents c =
    let above = c.in_ok-parents.ensures ∙ (λ i. map (told_parents (c.as_slice-2.ensures i) c.args.root (c.lost_directory-above.ensures i) c.args.new) (directory_numbers ((c.deref.ensures.value ∙ nodes_from c.args.nodes.now c.args.listed.now c.args.root c.args.new c.args.names c.requires.names c.is_new-adds.result c.as_slice.result.now c.in_ok-all.all.items c.is_new-adds.ensures c.as_slice.ensures c.in_ok-all.ensures) i))) ∙ parents_wanted c.args.nodes.now c.args.listed.now c.args.root c.args.new c.args.names c.requires.nodes.ascend c.requires.names in
    IfOk-weaker c.join_names.result (AreNamesOf c.deref-3.result.now c.args.listed.now c.args.dirs.now c.args.root c.in_ok-entries.entries c.in_ok-parents.parents) (λ (w : WantedNames). w.parents ≡ wanted_parents c.args.nodes.now c.args.listed.now c.args.root c.args.new) (λ w is. is.parents' ∙ above) c.join_names.ensures

pub returns-clause-links : goal.returns-clause-links
returns-clause-links c =
    let all = c.deref-3.ensures.value ∙ nodes_from c.args.nodes.now c.args.listed.now c.args.root c.args.new c.args.names c.requires.names c.is_new-adds.result c.as_slice.result.now c.in_ok-all.all.items c.is_new-adds.ensures c.as_slice.ensures c.in_ok-all.ensures in
    let due = entries_from c.args.nodes.now c.args.listed.now c.args.root c.args.new c.args.names c.requires.names c.deref-2.result.now c.in_ok-entries.entries (c.deref-2.ensures.value ∙ nodes_from c.args.nodes.now c.args.listed.now c.args.root c.args.new c.args.names c.requires.names c.is_new-adds.result c.as_slice.result.now c.in_ok-all.all.items c.is_new-adds.ensures c.as_slice.ensures c.in_ok-all.ensures) c.in_ok-entries.ensures.entries in
    IfOk-weaker c.join_names.result (AreNamesOf c.deref-3.result.now c.args.listed.now c.args.dirs.now c.args.root c.in_ok-entries.entries c.in_ok-parents.parents) (λ (w : WantedNames). w.links ≡ wanted_links c.args.nodes.now c.args.listed.now c.args.root c.args.new)
    (λ w is. is.links' ∙ (λ i. map (with_links (all i) (due i) c.args.root) (all i))) c.join_names.ensures

pub returns-clause-rebuilt : goal.returns-clause-rebuilt
returns-clause-rebuilt c =
    let due = entries_from c.args.nodes.now c.args.listed.now c.args.root c.args.new c.args.names c.requires.names c.deref-2.result.now c.in_ok-entries.entries (c.deref-2.ensures.value ∙ nodes_from c.args.nodes.now c.args.listed.now c.args.root c.args.new c.args.names c.requires.names c.is_new-adds.result c.as_slice.result.now c.in_ok-all.all.items c.is_new-adds.ensures c.as_slice.ensures c.in_ok-all.ensures) c.in_ok-entries.ensures.entries in
    let above = c.in_ok-parents.ensures ∙ (λ i. map (told_parents (c.as_slice-2.ensures i) c.args.root (c.lost_directory-above.ensures i) c.args.new) (directory_numbers ((c.deref.ensures.value ∙ nodes_from c.args.nodes.now c.args.listed.now c.args.root c.args.new c.args.names c.requires.names c.is_new-adds.result c.as_slice.result.now c.in_ok-all.all.items c.is_new-adds.ensures c.as_slice.ensures c.in_ok-all.ensures) i))) ∙ parents_wanted c.args.nodes.now c.args.listed.now c.args.root c.args.new c.args.names c.requires.nodes.ascend c.requires.names in
    IfOk-weaker c.join_names.result (AreNamesOf c.deref-3.result.now c.args.listed.now c.args.dirs.now c.args.root c.in_ok-entries.entries c.in_ok-parents.parents) (λ (w : WantedNames). w.rebuilt ≡ wanted_rebuilt c.args.nodes.now c.args.listed.now c.args.dirs.now c.args.root c.args.new)
    (λ w is. is.rebuilt' ∙ (λ i. rebuilt_among c.args.listed.now c.args.dirs.now (due i) (above i))) c.join_names.ensures

pub returns-clause-buildable : goal.returns-clause-buildable
returns-clause-buildable c =
    let due = entries_from c.args.nodes.now c.args.listed.now c.args.root c.args.new c.args.names c.requires.names c.deref-2.result.now c.in_ok-entries.entries (c.deref-2.ensures.value ∙ nodes_from c.args.nodes.now c.args.listed.now c.args.root c.args.new c.args.names c.requires.names c.is_new-adds.result c.as_slice.result.now c.in_ok-all.all.items c.is_new-adds.ensures c.as_slice.ensures c.in_ok-all.ensures) c.in_ok-entries.ensures.entries in
    let above = c.in_ok-parents.ensures ∙ (λ i. map (told_parents (c.as_slice-2.ensures i) c.args.root (c.lost_directory-above.ensures i) c.args.new) (directory_numbers ((c.deref.ensures.value ∙ nodes_from c.args.nodes.now c.args.listed.now c.args.root c.args.new c.args.names c.requires.names c.is_new-adds.result c.as_slice.result.now c.in_ok-all.all.items c.is_new-adds.ensures c.as_slice.ensures c.in_ok-all.ensures) i))) ∙ parents_wanted c.args.nodes.now c.args.listed.now c.args.root c.args.new c.args.names c.requires.nodes.ascend c.requires.names in
    let few : length c.args.listed.now < 18446744073709551616 = omega arith in
    IfOk-weaker c.join_names.result (AreNamesOf c.deref-3.result.now c.args.listed.now c.args.dirs.now c.args.root c.in_ok-entries.entries c.in_ok-parents.parents) (λ (w : WantedNames). c.args.new < 2 ^ 32 → CanBeBuilt w)
    (λ w is low.
    buildable c.args.nodes.now c.args.listed.now c.args.root c.args.new c.requires.nodes c.requires.listed few c.requires.root c.requires.new low c.args.dirs.now w
    (is.entries' ∙ due) (is.parents' ∙ above) (is.rebuilt' ∙ (λ i. rebuilt_among c.args.listed.now c.args.dirs.now (due i) (above i)))
    (subst (λ (es : List EntryRec). length es ≤ 2 ^ 24) (sym is.entries') c.in_ok-entries.ensures.few)
    (subst (IsNonDecreasingBy (λ (e : EntryRec). e.dir)) (sym is.entries') c.in_ok-entries.ensures.rise)) c.join_names.ensures

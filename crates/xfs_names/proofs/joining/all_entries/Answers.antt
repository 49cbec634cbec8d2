use Rattle.std.proofs.Common.{◌≡◌, ◌≤◌, ◌∙◌, sym, ap, subst, arith, length, map, List}
use Rattle.std.specs.List.Sorted.{IsNonDecreasingBy}
use Rattle.std.proofs.Math.ListN.{length-map}
use Rattle.xfs_dirdata.specs.declared.records.EntryRec.{EntryRec}
use Rattle.xfs_names.specs.Wanted.{with_type}
use Rattle.xfs_names.proofs.Rising.{typed_rise}
use Rattle.xfs_names.proofs.joining.all_entries.Goals as goal

pub returns-clause-few : goal.returns-clause-few
returns-clause-few c =
    let many : length (map (with_type c.args.nodes.now) c.in_ok-all.all.items) ≡ length c.in_ok-all.all.items = length-map _ _ in
    let held : length c.as_slice.result.now ≡ length c.in_ok-all.all.items = ap (λ (es : List EntryRec). length es) c.as_slice.ensures.value in
    subst (λ (es : List EntryRec). length es ≤ 16777216) (sym c.with_types.ensures) (omega (arith, c.if-as_slice-gt-MOST_ENTRIES.false))

pub returns-clause-rise : goal.returns-clause-rise
returns-clause-rise c = subst (λ (es : List EntryRec). IsNonDecreasingBy (λ (e : EntryRec). e.dir) es) (sym c.with_types.ensures) (typed_rise c.args.nodes.now c.in_ok-all.all.items c.in_ok-all.ensures.rise)

pub returns-clause-entries : goal.returns-clause-entries
returns-clause-entries c = c.with_types.ensures ∙ ap (λ (es : List EntryRec). map (with_type c.args.nodes.now) es) c.in_ok-all.ensures.grouped

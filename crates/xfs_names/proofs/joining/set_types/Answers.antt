use Rattle.std.proofs.Common.{◌≡◌, ◌∙◌, sym, ap, subst, add-one, map, take, drop, ◌++◌, slice_set, slice_index_or, List}
use Rattle.xfs_dirdata.specs.declared.records.EntryRec.{EntryRec}
use Rattle.xfs_names.specs.Wanted.{with_type}
use Rattle.xfs_names.proofs.Setting.{set_next}
use Rattle.xfs_names.proofs.joining.set_types.Goals as goal

pub loop-entry-preserved : goal.loop-entry-preserved
loop-entry-preserved c =
    let i = c.loop-entry.entry-index in
    let f = with_type c.args.nodes.now in
    let xs = c.args.entries.now in
    let x = c.entry-item.result in
    ap (λ (es : List EntryRec). slice_set es i c.set_type.new.entry) c.loop-entry.invariant
    ∙ ap (λ (e : EntryRec). slice_set (map f (take i xs) ++ drop i xs) i e) c.set_type.ensures
    ∙ ap (λ (e : EntryRec). slice_set (map f (take i xs) ++ drop i xs) i (f e)) (sym c.entry-item.is)
    ∙ set_next f i xs x c.loop-entry-test.true (subst (λ (es : List EntryRec). x ≡ slice_index_or es i x) c.loop-entry.invariant c.entry-item.is)
    ∙ ap (λ k. map f (take k xs) ++ drop k xs) (sym (add-one i))

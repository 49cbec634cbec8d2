use Rattle.std.proofs.Common.{◌≡◌, List, map, sym, ◌∙◌, ap, subst, IfOk, Bool}
use Rattle.xfs_dirindex.specs.Mapped.{OffsetsAscend}
use Rattle.xfs_dirs.specs.declared.gathered.KeptBlock.{KeptBlock}
use Rattle.xfs_dirs.specs.Gathered.{BlocksInOrder, AscendWhole}
use Rattle.xfs_dirs.proofs.Order.{offsets_ascend}
use Rattle.xfs_dirs.proofs.Readings.{seen_whole}
use Rattle.xfs_dirs.proofs.whole_forms.is_whole_directory.Goals as goal

pub has_whole_form-requires-clause-ascending : goal.has_whole_form-requires-clause-ascending
has_whole_form-requires-clause-ascending c =
    let order : AscendWhole 0 c.in-Some.kept.blocks.items = subst BlocksInOrder c.in-Some.is c.requires in
    let offsets : c.in_ok-seen_of-in-Some.field-0.offsets.items ≡ map (λ (k : KeptBlock). k.offset) c.in-Some.kept.blocks.items =
    c.in_ok-seen_of-in-Some.ensures.offsets ∙ ap (λ (ks : List KeptBlock). map (λ (k : KeptBlock). k.offset) ks) c.deref.ensures.value in
    subst (OffsetsAscend 0) (sym offsets) (offsets_ascend 0 c.in-Some.kept.blocks.items order)

pub returns-in_ok-seen_of-in-Some : goal.returns-in_ok-seen_of-in-Some
returns-in_ok-seen_of-in-Some c =
    let e = c.in_ok-seen_of-in-Some.ensures in
    subst (λ (b : Bool). IfOk c.has_whole_form.result (λ whole. whole ≡ b))
    (seen_whole c.args.dir c.args.size c.args.kept.now c.in-Some.kept c.deref.result.now c.in_ok-seen_of-in-Some.field-0 c.in-Some.is c.deref.ensures.value e.dir e.size e.offsets e.blocks)
    c.has_whole_form.ensures

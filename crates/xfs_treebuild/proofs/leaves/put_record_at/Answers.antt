use Rattle.std.proofs.Common.{◌≡◌, ◌+◌, ◌≤◌, length, ◌∙◌, ap, arith, sym, subst, ◌<◌}
use Rattle.xfs_tree.specs.declared.layout.Layout.{Layout}
use Rattle.xfs_tree.specs.Blocks.{record_place}
use Rattle.xfs_treebuild.proofs.PackingBytes.{wrote_part, wrote_keeps_parts}
use Rattle.xfs_treebuild.proofs.leaves.put_record_at.Goals as goal

pub returns-clause-put : goal.returns-clause-put
returns-clause-put g c =
    let law = g.met.K.Kind g.world.𝓛 g.world.𝓜 g.world.𝓡 ((λ s x. x), (λ x. x), (λ x. x), λ x. x) in
    let kind = law.kind c.args.kind.now in
    let s = g.K.Kind.shape c.args.kind.now in
    let value = c.tree_layout-layout.ensures.value in
    let here : c.record_place-at.result ≡ record_place s.layout c.args.i = c.record_place-at.ensures.place ∙ ap (λ (l : Layout). record_place l c.args.i) value in
    let size : c.tree_layout-layout.result.record_len ≡ s.layout.record_len = ap (λ (l : Layout). l.record_len) value in
    let inside : c.record_place-at.result + c.tree_layout-layout.result.record_len ≤ length c.args.block.now = omega (arith, c.record_place-at.ensures.inside, c.requires.block) in
    let len : length c.put_record.new.bytes ≡ s.layout.record_len = ap length c.put_record.ensures ∙ kind.record_len c.args.item.now c.requires.fits in
    ap s.record_of (wrote_part _ _ _ _ c.args.block.now c.put_record.new.bytes _ here size inside len c.put_record.ensures)
    ∙ kind.record_again c.args.item.now c.requires.fits

pub returns-clause-keeps_parts : goal.returns-clause-keeps_parts
returns-clause-keeps_parts g c =
    let law = g.met.K.Kind g.world.𝓛 g.world.𝓜 g.world.𝓡 ((λ s x. x), (λ x. x), (λ x. x), λ x. x) in
    let kind = law.kind c.args.kind.now in
    let s = g.K.Kind.shape c.args.kind.now in
    let value = c.tree_layout-layout.ensures.value in
    let here : c.record_place-at.result ≡ record_place s.layout c.args.i = c.record_place-at.ensures.place ∙ ap (λ (l : Layout). record_place l c.args.i) value in
    let size : c.tree_layout-layout.result.record_len ≡ s.layout.record_len = ap (λ (l : Layout). l.record_len) value in
    let inside : c.record_place-at.result + c.tree_layout-layout.result.record_len ≤ length c.args.block.now = omega (arith, c.record_place-at.ensures.inside, c.requires.block) in
    let len : length c.put_record.new.bytes ≡ s.layout.record_len = ap length c.put_record.ensures ∙ kind.record_len c.args.item.now c.requires.fits in
    wrote_keeps_parts _ _ _ _ c.args.block.now c.put_record.new.bytes here size inside len

pub record_place-at-requires-clause-sound : goal.record_place-at-requires-clause-sound
record_place-at-requires-clause-sound g c = c.tree_layout-layout.ensures.sound

pub record_place-at-requires-clause-inside : goal.record_place-at-requires-clause-inside
record_place-at-requires-clause-inside g c = subst (λ (l : Layout). c.args.i < l.leaf_cap) (sym c.tree_layout-layout.ensures.value) c.requires.inside

pub slice_bounds-put_record-end : goal.slice_bounds-put_record-end
slice_bounds-put_record-end g c = omega (arith, c.record_place-at.ensures.inside, c.requires.block)

pub put_record-requires-clause-fits : goal.put_record-requires-clause-fits
put_record-requires-clause-fits g c = c.requires.fits

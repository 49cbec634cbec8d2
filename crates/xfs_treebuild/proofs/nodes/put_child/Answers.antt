use Rattle.std.proofs.Common.{◌≡◌, ℕ, ◌∙◌, ap, subst, sym, ◌<◌}
use Rattle.xfs_word.specs.Field.{KeepsBeside, KeepsParts}
use Rattle.xfs_geom.specs.Volumes.{volume_of}
use Rattle.xfs_tree.specs.declared.layout.Layout.{Layout}
use Rattle.xfs_tree.specs.Layout.{pointer_len}
use Rattle.xfs_tree.specs.Blocks.{pointer_place, pointer_at, block_of_pointer}
use Rattle.xfs_treebuild.proofs.PackingItems.{child_beside, child_put}
use Rattle.xfs_treebuild.proofs.PackingExact.{keys_put}
use Rattle.xfs_treebuild.proofs.nodes.put_child.Goals as goal

pub returns-clause-others : goal.returns-clause-others
returns-clause-others g c =
    let s = g.K.Kind.shape c.args.kind.now in
    let mid = c.put_keys.new.block in
    let new = c.put_pointer.new.block in
    let value = c.tree_layout-layout.ensures.value in
    let pointers = subst (λ (l : Layout). KeepsBeside mid new (pointer_place l c.args.i) (pointer_len l)) value c.put_pointer.ensures.keeps in
    let pointers_parts = subst (λ (l : Layout). KeepsParts mid new (pointer_place l c.args.i) (pointer_len l)) value c.put_pointer.ensures.keeps_parts in
    λ k before.
    child_beside s (volume_of c.args.g.now) c.args.block.now mid new k c.args.i before c.requires.inside c.put_keys.ensures.keeps c.put_keys.ensures.keeps_parts pointers pointers_parts

pub returns-clause-keeps : goal.returns-clause-keeps
returns-clause-keeps g c =
    let mid = c.put_keys.new.block in
    let new = c.put_pointer.new.block in
    let pointers = subst (λ (l : Layout). KeepsParts mid new (pointer_place l c.args.i) (pointer_len l)) c.tree_layout-layout.ensures.value c.put_pointer.ensures.keeps_parts in
    λ a w keys pointer. pointers a w pointer ∙ c.put_keys.ensures.keeps_parts a w keys

pub returns-clause-spelt : goal.returns-clause-spelt
returns-clause-spelt g c =
    let mid = c.put_keys.new.block in
    let new = c.put_pointer.new.block in
    let pointers = subst (λ (l : Layout). KeepsParts mid new (pointer_place l c.args.i) (pointer_len l)) c.tree_layout-layout.ensures.value c.put_pointer.ensures.keeps_parts in
    keys_put (g.K.Kind.shape c.args.kind.now) mid new c.args.i c.requires.inside pointers
    (record { low = c.put_keys.ensures.spelt_low; high = c.put_keys.ensures.spelt_high })

pub returns-clause-put : goal.returns-clause-put
returns-clause-put g c =
    let s = g.K.Kind.shape c.args.kind.now in
    let v = volume_of c.args.g.now in
    let i = c.args.i in
    let seat = c.args.seat.now in
    let mid = c.put_keys.new.block in
    let new = c.put_pointer.new.block in
    let layout = c.tree_layout-layout.result in
    let value = c.tree_layout-layout.ensures.value in
    let same = subst (λ (l : Layout). KeepsParts mid new (pointer_place l i) (pointer_len l)) value c.put_pointer.ensures.keeps_parts in
    let written = ap (λ (p : ℕ). block_of_pointer v layout c.owner.result p) c.put_pointer.ensures.put ∙ c.pointer_to.ensures.value in
    let place = subst (λ (l : Layout). block_of_pointer v l s.owner (pointer_at l new i) ≡ seat.place) value
    (subst (λ (o : ℕ). block_of_pointer v layout o (pointer_at layout new i) ≡ seat.place) c.owner.ensures.value written) in
    child_put s v mid new i seat c.requires.inside same place c.put_keys.ensures.low c.put_keys.ensures.high c.requires.one

pub put_keys-requires-clause-block : goal.put_keys-requires-clause-block
put_keys-requires-clause-block g c = λ κs lives. c.requires.block

pub put_keys-requires-clause-inside : goal.put_keys-requires-clause-inside
put_keys-requires-clause-inside g c = λ κs lives. c.requires.inside

pub put_keys-requires-clause-low : goal.put_keys-requires-clause-low
put_keys-requires-clause-low g c = λ κs lives. c.requires.low

pub put_keys-requires-clause-high : goal.put_keys-requires-clause-high
put_keys-requires-clause-high g c = λ κs lives. c.requires.high

pub put_pointer-requires-clause-sound : goal.put_pointer-requires-clause-sound
put_pointer-requires-clause-sound g c = c.tree_layout-layout.ensures.sound

pub put_pointer-requires-clause-inside : goal.put_pointer-requires-clause-inside
put_pointer-requires-clause-inside g c = subst (λ (l : Layout). c.args.i < l.node_cap) (sym c.tree_layout-layout.ensures.value) c.requires.inside

pub put_pointer-requires-clause-short : goal.put_pointer-requires-clause-short
put_pointer-requires-clause-short g c = c.pointer_to.ensures.short

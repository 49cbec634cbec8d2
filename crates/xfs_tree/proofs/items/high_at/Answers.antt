use Rattle.std.proofs.Common.{◌≡◌, ℕ, ◌+◌, ◌<◌, sym, ◌∙◌, ap, subst}
use Rattle.xfs_word.specs.Field.{part_of}
use Rattle.xfs_tree.specs.declared.layout.Layout.{Layout}
use Rattle.xfs_tree.specs.Blocks.{key_place}
use Rattle.xfs_tree.proofs.items.high_at.Goals as goal

pub key_place-requires-clause-sound : goal.key_place-requires-clause-sound
key_place-requires-clause-sound g c = c.tree_layout-layout.ensures.sound

pub key_place-requires-clause-inside : goal.key_place-requires-clause-inside
key_place-requires-clause-inside g c = subst (λ (l : Layout). c.args.i < l.node_cap) (sym c.tree_layout-layout.ensures.value) c.requires.inside

pub read_key-requires : goal.read_key-requires
read_key-requires g c =
    let law = g.met.K.Kind g.world.𝓛 g.world.𝓜 g.world.𝓡 ((λ s x. x), (λ x. x), (λ x. x), λ x. x) in
    c.part.ensures.long ∙ ap (λ (l : Layout). l.key_len) (c.tree_layout-layout.ensures.value ∙ law.numbers c.args.kind.now)

pub returns : goal.returns
returns g c =
    let layout = c.tree_layout-layout.ensures.value in
    let place = c.key_place.ensures.place ∙ ap (λ (l : Layout). key_place l c.args.i) layout in
    c.read_key.ensures
    ∙ ap (g.K.Kind.shape c.args.kind.now).key_of (c.part.ensures.value ∙ (λ j. part_of c.args.block.now (place j + (layout j).key_len) (layout j).key_len))

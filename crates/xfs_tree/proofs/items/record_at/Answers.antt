use Rattle.std.proofs.Common.{◌≡◌, ℕ, ◌+◌, ◌<◌, ◌≤◌, sym, ◌∙◌, ap, subst}
use Rattle.xfs_word.specs.Field.{part_of}
use Rattle.xfs_tree.specs.declared.layout.Layout.{Layout}
use Rattle.xfs_tree.specs.Blocks.{record_place}
use Rattle.xfs_tree.proofs.items.record_at.Goals as goal

pub record_place-requires-clause-sound : goal.record_place-requires-clause-sound
record_place-requires-clause-sound g c = c.tree_layout-layout.ensures.sound

pub record_place-requires-clause-inside : goal.record_place-requires-clause-inside
record_place-requires-clause-inside g c = subst (λ (l : Layout). c.args.i < l.leaf_cap) (sym c.tree_layout-layout.ensures.value) c.requires.inside

pub part-requires : goal.part-requires
part-requires g c = subst (λ (n : ℕ). c.record_place.result + c.tree_layout-layout.result.record_len ≤ n) (sym c.requires.block) c.record_place.ensures.inside

pub read_record-requires : goal.read_record-requires
read_record-requires g c =
    let law = g.met.K.Kind g.world.𝓛 g.world.𝓜 g.world.𝓡 ((λ s x. x), (λ x. x), (λ x. x), λ x. x) in
    c.part.ensures.long ∙ ap (λ (l : Layout). l.record_len) (c.tree_layout-layout.ensures.value ∙ law.numbers c.args.kind.now)

pub returns : goal.returns
returns g c =
    let layout = c.tree_layout-layout.ensures.value in
    let place = c.record_place.ensures.place ∙ ap (λ (l : Layout). record_place l c.args.i) layout in
    c.read_record.ensures
    ∙ ap (g.K.Kind.shape c.args.kind.now).record_of (c.part.ensures.value ∙ (λ j. part_of c.args.block.now (place j) (layout j).record_len))

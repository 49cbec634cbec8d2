use Rattle.std.proofs.Common.{◌≡◌, ℕ, ◌<◌, Some, sym, ◌∙◌, ap, subst}
use Rattle.xfs_geom.specs.Volumes.{volume_of}
use Rattle.xfs_tree.specs.declared.layout.Layout.{Layout}
use Rattle.xfs_tree.specs.Blocks.{block_of_pointer, pointer_at}
use Rattle.xfs_tree.proofs.items.child_at.Goals as goal

pub pointer-requires-clause-sound : goal.pointer-requires-clause-sound
pointer-requires-clause-sound g c = c.tree_layout-layout.ensures.sound

pub pointer-requires-clause-block : goal.pointer-requires-clause-block
pointer-requires-clause-block g c = c.requires.block

pub pointer-requires-clause-inside : goal.pointer-requires-clause-inside
pointer-requires-clause-inside g c = subst (λ (l : Layout). c.args.i < l.node_cap) (sym c.tree_layout-layout.ensures.value) c.requires.inside

pub block_of_pointer-requires-clause-owner : goal.block_of_pointer-requires-clause-owner
block_of_pointer-requires-clause-owner g c =
    let law = g.met.K.Kind g.world.𝓛 g.world.𝓜 g.world.𝓡 ((λ s x. x), (λ x. x), (λ x. x), λ x. x) in
    λ short. c.owner.ensures.short (ap (λ (l : Layout). l.long) (sym (law.numbers c.args.kind.now)) ∙ ap (λ (l : Layout). l.long) (sym c.tree_layout-layout.ensures.value) ∙ short)

pub block_of_pointer-requires-clause-pointer : goal.block_of_pointer-requires-clause-pointer
block_of_pointer-requires-clause-pointer g c = c.pointer.ensures.short

pub low_at-requires-clause-block : goal.low_at-requires-clause-block
low_at-requires-clause-block g c = λ κs lives. c.requires.block

pub low_at-requires-clause-inside : goal.low_at-requires-clause-inside
low_at-requires-clause-inside g c = λ κs lives. c.requires.inside

pub stated_high-requires-clause-block : goal.stated_high-requires-clause-block
stated_high-requires-clause-block g c = λ κs lives. c.requires.block

pub stated_high-requires-clause-inside : goal.stated_high-requires-clause-inside
stated_high-requires-clause-inside g c = λ κs lives. c.requires.inside

pub returns : goal.returns
returns g c =
    let layout = c.tree_layout-layout.ensures.value in
    λ k. record {
      place = (c.block_of_pointer.ensures ∙ (λ j. block_of_pointer (volume_of c.args.g.now) (layout j) (c.owner.ensures.value j)
          ((c.pointer.ensures.value ∙ ap (λ (l : Layout). pointer_at l c.args.block.now c.args.i) layout) j))) k;
      low = Some (c.low_at.ensures k);
      high = c.stated_high.ensures k;
    }

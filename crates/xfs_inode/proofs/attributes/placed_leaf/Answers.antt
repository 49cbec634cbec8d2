use Rattle.std.proofs.Common.{◌≡◌, ◌==◌, ◌&&◌, Bool, true, false, if◌then◌else◌, [], ◌∷◌, Option, None, IfOk, sym, ap, subst, ◌∙◌}
use Rattle.std.proofs.lemmas.Bool.{eq-eqb, ne_eqb}
use Rattle.xfs_attr.specs.Leaf.{leaf_of}
use Rattle.xfs_geom.specs.Volumes.{volume_of}
use Rattle.xfs_word.specs.Seal.{is_sealed}
use Rattle.xfs_word.specs.declared.extents.Extent.{Extent}
use Rattle.xfs_word.specs.declared.kinds.Seal.{Seal}
use Rattle.xfs_inode.specs.Files.{AttrFork, fork_with, index_seal}
use Rattle.xfs_inode.specs.Forks.{attr_extent}
use Rattle.xfs_inode.proofs.attributes.placed_leaf.Goals.{then-extent-ne0-via-then-extent-ne0, then-extent-ne0-via-else-extent-ne0+then-not-sealed}
use Rattle.xfs_inode.proofs.attributes.placed_leaf.Goals as goal

pub returns-then-extent-ne0 : goal.returns-then-extent-ne0
returns-then-extent-ne0 c = elim c.then-extent-ne0.branch [
  | then-extent-ne0-via-then-extent-ne0 w ↦
      let a = c.args in
      let e = attr_extent a.core.now a.slot.now in
      let late : (e.offset == 0) ≡ false = ap (λ (x : Extent). x.offset == 0) (sym c.attr_extent-extent.ensures) ∙ ne_eqb c.attr_extent-extent.result.offset 0 w.if-extent-ne0.true in
      sym (λ i. if late i && is_sealed (index_seal (volume_of a.g.now) a.ino 0x3bee a.place) a.block.now then fork_with (e ∷ []) (a.place ∷ []) (leaf_of a.block.now) else None)
  | then-extent-ne0-via-else-extent-ne0+then-not-sealed w ↦
      let a = c.args in
      let e = attr_extent a.core.now a.slot.now in
      let first : (e.offset == 0) ≡ true = ap (λ (x : Extent). x.offset == 0) (sym c.attr_extent-extent.ensures) ∙ eq-eqb c.attr_extent-extent.result.offset 0 w.if-extent-ne0.false in
      let broken : is_sealed (index_seal (volume_of a.g.now) a.ino 0x3bee a.place) a.block.now ≡ false =
      ap (λ (s : Seal). is_sealed s a.block.now) (sym w.index_seal.ensures) ∙ sym w.sealed.ensures ∙ w.if-not-sealed.true in
      sym (λ i. if first i && broken i then fork_with (e ∷ []) (a.place ∷ []) (leaf_of a.block.now) else None)
]

pub returns-in-Ok : goal.returns-in-Ok
returns-in-Ok c =
    let a = c.args in
    let first : ((attr_extent a.core.now a.slot.now).offset == 0) ≡ true =
    ap (λ (x : Extent). x.offset == 0) (sym c.attr_extent-extent.ensures) ∙ eq-eqb c.attr_extent-extent.result.offset 0 c.if-extent-ne0.false in
    let sound : is_sealed (index_seal (volume_of a.g.now) a.ino 0x3bee a.place) a.block.now ≡ true =
    ap (λ (s : Seal). is_sealed s a.block.now) (sym c.index_seal.ensures) ∙ sym c.sealed.ensures ∙ c.if-not-sealed.false in
    let extent = sym c.attr_extent-extent.ensures in
    subst (λ (f : Option AttrFork). IfOk c.leaf_with.result (λ held. held ≡ f))
    (sym (λ i. if first i && sound i then fork_with (extent i ∷ []) (a.place ∷ []) (c.in-Ok.ensures.due i) else None)) c.leaf_with.ensures

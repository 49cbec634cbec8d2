use Rattle.std.proofs.Common.{◌≡◌, ◌++◌, List, [], ◌∷◌, ap, ap₂, ◌∙◌, sym}
use Rattle.xfs_attr.specs.declared.attributes.Attr.{Attr}
use Rattle.std.proofs.Common.{Vec, Global}
use Rattle.xfs_attr.specs.Leaf.{leaf_entry_at, is_complete, attribute_of}
use Rattle.xfs_attr.proofs.Steps.{kept_more, skipped_more}
use Rattle.xfs_attr.proofs.leaf.read_attributes.Goals as goal
use Rattle.xfs_attr.proofs.leaf.read_attributes.Goals.{then-is_complete+in_ok-read_attribute+in_ok-push, else-is_complete}

pub loop-index-preserved : goal.loop-index-preserved
loop-index-preserved c =
    let block = c.args.block.now in
    let e : c.read_entry-entry.result ≡ leaf_entry_at block c.loop-index.index = c.read_entry-entry.ensures in
    let complete : c.is_complete.result ≡ is_complete (leaf_entry_at block c.loop-index.index) = c.is_complete.ensures ∙ ap is_complete e in
    elim c.if-is_complete.branch [
      | then-is_complete+in_ok-read_attribute+in_ok-push w ↦
          let attribute : w.in_ok-read_attribute.field-0 ≡ attribute_of block (leaf_entry_at block c.loop-index.index) = w.in_ok-read_attribute.ensures ∙ ap (attribute_of block) e in
          ap (λ (v : Vec Attr Global). v.items) w.attributes-is
          ∙ (w.in_ok-push.ensures.items
          ∙ (ap₂ (λ (xs : List Attr) (a : Attr). xs ++ (a ∷ [])) c.loop-index.invariant attribute ∙ sym (kept_more block c.loop-index.index (sym complete ∙ w.if-is_complete.true))))
      | else-is_complete w ↦
          ap (λ (v : Vec Attr Global). v.items) w.attributes-is
          ∙ (c.loop-index.invariant ∙ sym (skipped_more block c.loop-index.index (sym complete ∙ w.if-is_complete.false)))
    ]

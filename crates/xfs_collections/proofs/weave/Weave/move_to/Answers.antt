use Rattle.std.proofs.Common.{◌≡◌, sym, ◌∙◌, ap, subst}
use Rattle.xfs_collections.specs.Lists.{Woven, IsFree, put_last, taken_off}
use Rattle.xfs_collections.proofs.Views.{off_free, free_off, none_is_free}
use Rattle.xfs_collections.proofs.weave.Weave.move_to.Goals as goal
use Rattle.xfs_collections.proofs.weave.Weave.move_to.Goals.{then-is_some, else-is_some}

pub push_back-requires-clause-free : goal.push_back-requires-clause-free
push_back-requires-clause-free c = subst (λ (w : Woven). IsFree w c.args.node) (sym settled) (off_free c.args.self.now c.args.node)
  where
    settled : c.if-is_some.self ≡ taken_off c.args.self.now c.args.node
    settled = elim c.if-is_some.branch [
      | then-is_some w ↦ w.self-is ∙ w.unlink.ensures.off
      | else-is_some w ↦ w.self-is ∙ free_off c.args.self.now c.args.node (none_is_free c.list_of.result c.args.self.now c.args.node c.list_of.ensures.list (sym c.is_some.ensures ∙ w.if-is_some.false))
    ]

pub returns : goal.returns
returns c = record { moved = c.push_back.ensures.put ∙ ap (λ (w : Woven). put_last w c.args.list c.args.node) settled }
  where
    settled : c.if-is_some.self ≡ taken_off c.args.self.now c.args.node
    settled = elim c.if-is_some.branch [
      | then-is_some w ↦ w.self-is ∙ w.unlink.ensures.off
      | else-is_some w ↦ w.self-is ∙ free_off c.args.self.now c.args.node (none_is_free c.list_of.result c.args.self.now c.args.node c.list_of.ensures.list (sym c.is_some.ensures ∙ w.if-is_some.false))
    ]

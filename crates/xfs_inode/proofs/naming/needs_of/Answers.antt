use Rattle.std.proofs.Common.{sym, ap, subst, ◌∙◌}
use Rattle.std.proofs.lemmas.Result.{IfOk-from_err}
use Rattle.xfs_geom.specs.Volumes.{volume_of}
use Rattle.xfs_inode.specs.Named.{IsTopNamed, attr_named, link_named, named_attr, named_link, named_top, top_named}
use Rattle.xfs_inode.specs.declared.reading.SlotRead.{SlotRead}
use Rattle.xfs_inode.proofs.naming.needs_of.Goals as goal

pub returns-in_err-top-in-InUse : goal.returns-in_err-top-in-InUse
returns-in_err-top-in-InUse c =
    let failed = c.from_residual.ensures.0 in
    record {
      top = IfOk-from_err c.from_residual.result _ failed;
      attr_leaf = IfOk-from_err c.from_residual.result _ failed;
      link = IfOk-from_err c.from_residual.result _ failed;
      attr_inside = IfOk-from_err c.from_residual.result _ failed;
      link_inside = IfOk-from_err c.from_residual.result _ failed;
    }

pub returns-in_ok-top-in-InUse : goal.returns-in_ok-top-in-InUse
unfolding named_top named_attr named_link
returns-in_ok-top-in-InUse c =
    let v = volume_of c.args.g.now in
    let slot = c.args.slot.now in
    record {
      top = subst (λ (r : SlotRead). IsTopNamed (top_named v r slot) c.in_ok-top-in-InUse.top) (sym c.in-InUse.is ∙ c.requires.read) c.in_ok-top-in-InUse.ensures;
      attr_leaf = c.attr_place.ensures.value ∙ ap (λ (r : SlotRead). attr_named v r slot) (sym c.in-InUse.is ∙ c.requires.read);
      link = c.link_place.ensures.value ∙ ap (λ (r : SlotRead). link_named v r slot) (sym c.in-InUse.is ∙ c.requires.read);
      attr_inside = c.attr_place.ensures.inside;
      link_inside = c.link_place.ensures.inside;
    }

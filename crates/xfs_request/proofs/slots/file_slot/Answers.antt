use Rattle.std.proofs.Common.{List, ap, ap₂, ◌∙◌}
use Rattle.xfs_dirdata.specs.declared.records.EntryRec.{EntryRec}
use Rattle.xfs_request.specs.Slots.{attrs_wanted, kept_slot, links_due, nlink_wanted}
use Rattle.xfs_request.proofs.slots.file_slot.Goals as goal

pub returns : goal.returns
returns c =
    let f = c.args.file.now in
    let b = c.args.basis.now in
    c.kept_slot.ensures
    ∙ ap₂ (kept_slot f.ino) (c.in_ok-attrs.ensures ∙ ap (attrs_wanted f) c.state_at.ensures)
    (c.in_ok-nlink_wanted.ensures ∙ ap (nlink_wanted f)
    (c.links_due-due.ensures b.kept.now.files c.requires.order.by_number.are ∙ ap (λ (es : List EntryRec). links_due b.g.now.rootino b.kept.now.files es f) c.as_slice.ensures))

use Rattle.std.proofs.Common.{◌≡◌, ◌==◌, List, Option, filter, slice_get, IfOk, sym, ap, subst, ◌∙◌}
use Rattle.xfs_geom.specs.Volumes.{volume_of}
use Rattle.xfs_volume.specs.declared.files.FileRec.{FileRec}
use Rattle.xfs_render.specs.declared.wanted_slots.SlotWanted.{SlotWanted}
use Rattle.xfs_request.specs.Slots.{slot_wanted}
use Rattle.xfs_request.proofs.Found.{of_first}
use Rattle.xfs_request.proofs.slots.slot_wanted.Goals as goal

pub returns-in-Some : goal.returns-in-Some
unfolding slot_wanted
returns-in-Some c =
    let b = c.args.basis.now in
    let own : List FileRec = filter (λ (f : FileRec). f.ino == c.args.ino) b.kept.now.files in
    let same : c.records_near.result.now ≡ own = c.records_near.ensures ∙ ap (filter (λ (f : FileRec). f.ino == c.args.ino)) c.as_slice.ensures in
    subst (λ (w : Option SlotWanted). IfOk c.file_slot.result (λ slot. slot ≡ w))
    (sym (of_first (volume_of b.g.now) b.stamp.now b.kept.now b.slots.now c.args.ino own c.in-Some.file.now (sym (c.in-Some.ensures.value ∙ ap (λ (fs : List FileRec). slice_get fs 0) same))))
    c.file_slot.ensures

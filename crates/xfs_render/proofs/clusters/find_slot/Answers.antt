use Rattle.std.proofs.Common.{◌≡◌, ◌≤◌, get_or, sym, ap, ◌∙◌, Some, arith}
use Rattle.std.proofs.lemmas.List.{get_or_default}
use Rattle.xfs_render.specs.declared.wanted_slots.SlotWanted.{SlotWanted}
use Rattle.xfs_render.proofs.WantedSlots.{wanted_at, wanted_behind}
use Rattle.xfs_render.proofs.clusters.find_slot.Goals as goal

pub returns-then-place-slots : goal.returns-then-place-slots
returns-then-place-slots c =
    sym (wanted_behind c.args.slots.now c.args.ino c.first_from-place.result
    (λ k d early. c.first_from-place.ensures.before k d (omega arith) early)
    (λ k d late inside. absurd (omega (arith, c.if-place-slots.true))))

pub returns-then-wanted-ino : goal.returns-then-wanted-ino
returns-then-wanted-ino c =
    let slots = c.args.slots.now in
    let place = c.first_from-place.result in
    let w = c.index-slots-place.result in
    let at : w ≡ get_or slots place w = c.index-slots-place.is in
    ap (λ (x : SlotWanted). Some x) at
    ∙ sym (wanted_at slots c.args.ino place w c.if-place-slots.false (ap (λ (x : SlotWanted). x.ino) (sym at) ∙ c.if-wanted-ino.true)
    (λ k early. c.first_from-place.ensures.before k w (omega arith) early))

pub returns-else-wanted-ino : goal.returns-else-wanted-ino
returns-else-wanted-ino c =
    let slots = c.args.slots.now in
    let place = c.first_from-place.result in
    let w = c.index-slots-place.result in
    let at : w ≡ get_or slots place w = c.index-slots-place.is in
    let here : w.ino ≡ (get_or slots place w).ino = ap (λ (x : SlotWanted). x.ino) at in
    let low : c.args.ino ≤ (get_or slots place w).ino = c.first_from-place.ensures.after place w (omega arith) c.if-place-slots.false in
    sym (wanted_behind slots c.args.ino place
    (λ k d early. c.first_from-place.ensures.before k d (omega arith) early)
    (λ k d late inside.
    let same : (get_or slots k d).ino ≡ (get_or slots k w).ino = ap (λ (x : SlotWanted). x.ino) (get_or_default slots k d w inside) in
    let up : (get_or slots place w).ino ≤ (get_or slots k w).ino = c.requires place k w late inside in
    omega (arith, same, up, low, here, c.if-wanted-ino.false)))

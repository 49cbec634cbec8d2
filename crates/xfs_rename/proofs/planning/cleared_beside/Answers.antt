use Rattle.std.proofs.Common.{◌≡◌, ℕ, ◌+◌, true, false, take, get_or, refl, sym, ap, ◌∙◌, arith}
use Rattle.std.specs.List.{count_by}
use Rattle.std.proofs.lemmas.List.{take_all}
use Rattle.std.proofs.lemmas.List.Sums.{count_by_more_no, count_by_more_yes, length-filter}
use Rattle.xfs_rename.specs.Renames.{stays_freed}
use Rattle.xfs_render.specs.declared.wanted_slots.SlotWanted.{SlotWanted}
use Rattle.xfs_rename.proofs.planning.cleared_beside.Goals.{then-stays_freed, else-stays_freed}
use Rattle.xfs_rename.proofs.planning.cleared_beside.Goals as goal

pub loop-slot-init : goal.loop-slot-init
loop-slot-init c = record { few = omega arith; told = refl }

pub loop-slot-preserved : goal.loop-slot-preserved
loop-slot-preserved c =
    let p = stays_freed c.args.lost.now in
    let all = c.args.slots.now in
    let i = c.loop-slot.slot-index in
    let more = c.loop-slot-test.true in
    elim c.if-stays_freed.branch [
      | then-stays_freed w ↦
          let yes : p (get_or all i c.slot-item.result) ≡ true = ap p (sym c.slot-item.is) ∙ sym c.stays_freed.ensures ∙ w.if-stays_freed.true in
          record {
            few = omega (arith, w.count-is, c.loop-slot.invariant.few);
            told = w.count-is ∙ ap (λ (n : ℕ). n + 1) c.loop-slot.invariant.told ∙ sym (count_by_more_yes p all i c.slot-item.result more yes);
          }
      | else-stays_freed w ↦
          let no : p (get_or all i c.slot-item.result) ≡ false = ap p (sym c.slot-item.is) ∙ sym c.stays_freed.ensures ∙ w.if-stays_freed.false in
          record {
            few = omega (arith, w.count-is, c.loop-slot.invariant.few);
            told = w.count-is ∙ c.loop-slot.invariant.told ∙ sym (count_by_more_no p all i c.slot-item.result more no);
          }
    ]

pub returns : goal.returns
returns c =
    let p = stays_freed c.args.lost.now in
    c.loop-slot.invariant.told ∙ ap (count_by p) (take_all c.loop-slot.slot-index c.args.slots.now c.loop-slot-test.false) ∙ sym (length-filter p c.args.slots.now)

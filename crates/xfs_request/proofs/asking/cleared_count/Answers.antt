use Rattle.std.proofs.Common.{◌≡◌, ℕ, ◌+◌, true, false, take, get_or, refl, sym, ap, ◌∙◌, arith}
use Rattle.std.specs.List.{count_by}
use Rattle.std.proofs.lemmas.List.{take_all}
use Rattle.std.proofs.lemmas.List.Sums.{count_by_more_no, count_by_more_yes, length-filter}
use Rattle.xfs_request.specs.Requests.{is_freed}
use Rattle.xfs_render.specs.declared.wanted_slots.SlotWanted.{SlotWanted}
use Rattle.xfs_request.proofs.asking.cleared_count.Goals.{then-is_freed, else-is_freed}
use Rattle.xfs_request.proofs.asking.cleared_count.Goals as goal

pub loop-slot-init : goal.loop-slot-init
loop-slot-init c = record { few = omega arith; told = refl }

pub loop-slot-preserved : goal.loop-slot-preserved
loop-slot-preserved c =
    let p = is_freed in
    let all = c.args.slots.now in
    let i = c.loop-slot.slot-index in
    let more = c.loop-slot-test.true in
    elim c.if-is_freed.branch [
      | then-is_freed w ↦
          let yes : p (get_or all i c.slot-item.result) ≡ true = ap p (sym c.slot-item.is) ∙ sym c.is_freed.ensures ∙ w.if-is_freed.true in
          record {
            few = omega (arith, w.count-is, c.loop-slot.invariant.few);
            told = w.count-is ∙ ap (λ (n : ℕ). n + 1) c.loop-slot.invariant.told ∙ sym (count_by_more_yes p all i c.slot-item.result more yes);
          }
      | else-is_freed w ↦
          let no : p (get_or all i c.slot-item.result) ≡ false = ap p (sym c.slot-item.is) ∙ sym c.is_freed.ensures ∙ w.if-is_freed.false in
          record {
            few = omega (arith, w.count-is, c.loop-slot.invariant.few);
            told = w.count-is ∙ c.loop-slot.invariant.told ∙ sym (count_by_more_no p all i c.slot-item.result more no);
          }
    ]

pub returns : goal.returns
returns c =
    let p = is_freed in
    c.loop-slot.invariant.told ∙ ap (count_by p) (take_all c.loop-slot.slot-index c.args.slots.now c.loop-slot-test.false) ∙ sym (length-filter p c.args.slots.now)

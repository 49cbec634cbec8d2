use Rattle.std.proofs.Common.{◌≡◌, ◌<◌, Bool, ◌&&◌, length, refl, sym, ap, ap₂, ◌∙◌, arith}
use Rattle.std.specs.List.{list_all}
use Rattle.std.proofs.lemmas.List.{take_all}
use Rattle.std.proofs.lemmas.List.Folds.{list_all_more, list_all_at}
use Rattle.std.proofs.lemmas.Option.{get_or_from_slice_get}
use Rattle.xfs_word.specs.Seal.{begins_as_slot}
use Rattle.xfs_scan.proofs.scan.are_begun.Goals as goal

pub loop-i-init : goal.loop-i-init
loop-i-init c = refl

pub loop-i-preserved : goal.loop-i-preserved
loop-i-preserved c =
    let bank = c.args.bank.now in
    let block = c.view.result.now in
    let inside : c.loop-i.i < length bank = omega (arith, c.loop-i-test.true, c.len-i-end.ensures.count) in
    list_all_more begins_as_slot bank c.loop-i.i block inside
    ∙ ap₂ (λ (x y : Bool). x && y) c.loop-i.invariant
    (ap begins_as_slot (get_or_from_slice_get bank c.loop-i.i block block c.view.ensures.block) ∙ (sym c.is_slot_block.ensures ∙ c.if-not-is_slot_block.false))

pub returns-then-not-is_slot_block : goal.returns-then-not-is_slot_block
returns-then-not-is_slot_block c =
    let bank = c.args.bank.now in
    let block = c.view.result.now in
    let inside : c.loop-i.i < length bank = omega (arith, c.loop-i-test.true, c.len-i-end.ensures.count) in
    sym (list_all_at begins_as_slot bank c.loop-i.i block inside
    (ap begins_as_slot (get_or_from_slice_get bank c.loop-i.i block block c.view.ensures.block) ∙ (sym c.is_slot_block.ensures ∙ c.if-not-is_slot_block.true)))

pub returns : goal.returns
returns c =
    sym (ap (list_all begins_as_slot) (sym (take_all c.loop-i.i c.args.bank.now (omega (arith, c.loop-i-test.false, c.len-i-end.ensures.count)))) ∙ c.loop-i.invariant)

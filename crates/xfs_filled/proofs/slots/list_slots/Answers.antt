use Rattle.std.proofs.Common.{ℕ, ◌++◌, List, [], ◌∷◌, map, arith, sym, ap, ap₂, ◌∙◌}
use Rattle.std.proofs.lemmas.Result.{IfOk-from_err}
use Rattle.std.specs.List.{range_with_len}
use Rattle.std.proofs.lemmas.List.FromFn.{map-range_with_len_more}
use borrow.Author.Count.{falls}
use Rattle.xfs_geom.specs.Volumes.{volume_of}
use Rattle.xfs_render.specs.declared.wanted_slots.SlotWanted.{SlotWanted}
use Rattle.xfs_filled.specs.Slots.{slot_of_index}
use Rattle.xfs_filled.proofs.Slotted.{slots_are}
use Rattle.xfs_filled.proofs.slots.list_slots.Goals as goal

pub loop-j-preserved : goal.loop-j-preserved
loop-j-preserved c =
    let site = c.args.site.now in
    let f : ℕ → SlotWanted = slot_of_index (volume_of site.geometry.now) c.args.stamp.now site.starts.now site.nodes.now site.contents.now c.args.runs.now in
    record {
      all = c.in_ok-push.ensures.items ∙ ap₂ (λ (xs : List SlotWanted) (x : SlotWanted). xs ++ x ∷ []) c.loop-j.invariant.all c.in_ok-slot_at.ensures
          ∙ sym (map-range_with_len_more f 0 c.loop-j.j c.loop-j.j (omega arith));
    }

pub returns : goal.returns
returns c =
    let site = c.args.site.now in
    let v = volume_of site.geometry.now in
    let starts = site.starts.now in
    let f : ℕ → SlotWanted = slot_of_index v c.args.stamp.now starts site.nodes.now site.contents.now c.args.runs.now in
    let past = c.loop-j-test.false in
    let end = c.loop-j.auto.j-end in
    c.loop-j.invariant.all ∙ ap (λ (n : ℕ). map f (range_with_len 0 n)) (omega (arith, past, end)) ∙ slots_are v c.args.stamp.now starts site.nodes.now site.contents.now c.args.runs.now

pub list_spans-requires-clause-site : goal.list_spans-requires-clause-site
list_spans-requires-clause-site c = c.requires.site

pub list_spans-requires-clause-runs : goal.list_spans-requires-clause-runs
list_spans-requires-clause-runs c = c.requires.runs

pub returns-in_err-spans : goal.returns-in_err-spans
returns-in_err-spans c = IfOk-from_err c.from_residual.result _ c.from_residual.ensures.0

pub returns-in_err-slots : goal.returns-in_err-slots
returns-in_err-slots c = IfOk-from_err c.from_residual-in_err-slots.result _ c.from_residual-in_err-slots.ensures.0

pub returns-in_err-slot_at : goal.returns-in_err-slot_at
returns-in_err-slot_at c = IfOk-from_err c.from_residual-in_err-slot_at.result _ c.from_residual-in_err-slot_at.ensures.0

pub returns-in_err-push : goal.returns-in_err-push
returns-in_err-push c = IfOk-from_err c.from_residual-in_err-push.result _ c.from_residual-in_err-push.ensures.0

pub slot_at-requires-clause-site : goal.slot_at-requires-clause-site
slot_at-requires-clause-site c = c.requires.site

pub slot_at-requires-clause-inside : goal.slot_at-requires-clause-inside
slot_at-requires-clause-inside c = c.requires.inside

pub slot_at-requires-clause-offsets : goal.slot_at-requires-clause-offsets
slot_at-requires-clause-offsets c = c.requires.offsets

pub slot_at-requires-clause-slot : goal.slot_at-requires-clause-slot
slot_at-requires-clause-slot c = c.loop-j-test.true

pub loop-j-smaller : goal.loop-j-smaller
loop-j-smaller c = falls _ c.loop-j.j c.loop-j-test.true

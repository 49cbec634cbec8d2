use Rattle.std.proofs.Common.{arith, ap, length, ◌≡◌, ℕ, List, take, take_all, subst}
use Rattle.std.proofs.lemmas.Result.{IfOk-from_err}
use borrow.Author.Count.{falls}
use Rattle.xfs_render.specs.Rendering.{AddsPlaces}
use Rattle.xfs_render.proofs.RenderSteps.{places_more, places_none}
use Rattle.xfs_render.proofs.rendering.add_places.Goals as goal

pub loop-i-init : goal.loop-i-init
loop-i-init c = record {
  places = places_none c.args.work.now.wanted.now c.args.work.now.placed.now c.args.work.now.bytes.now c.args.work.now.sector.now c.args.fresh c.args.draft.now c.requires.draft;
}

pub loop-i-preserved : goal.loop-i-preserved
loop-i-preserved c = record {
  places = places_more c.args.work.now.wanted.now c.args.work.now.placed.now c.args.work.now.bytes.now c.args.work.now.sector.now c.args.fresh c.loop-i.i
      c.args.draft.now c.loop-i.draft c.add_place.new.draft
      (omega (arith, c.loop-i-test.true, ap length c.as_slice-i-end.ensures)) c.loop-i.invariant.places c.in_ok-add_place.ensures;
}

pub add_place-requires-clause-ready : goal.add_place-requires-clause-ready
add_place-requires-clause-ready c = c.requires.ready

pub add_place-requires-clause-sector : goal.add_place-requires-clause-sector
add_place-requires-clause-sector c = c.requires.sector

pub add_place-requires-clause-reaches : goal.add_place-requires-clause-reaches
add_place-requires-clause-reaches c = c.requires.reaches

pub add_place-requires-clause-inside : goal.add_place-requires-clause-inside
add_place-requires-clause-inside c = omega (arith, c.loop-i-test.true, ap length c.as_slice-i-end.ensures)

pub add_place-requires-clause-draft : goal.add_place-requires-clause-draft
add_place-requires-clause-draft c = c.loop-i.invariant.places.adds.whole

pub returns-in_err-add_place : goal.returns-in_err-add_place
returns-in_err-add_place c = IfOk-from_err c.from_residual.result _ c.from_residual.ensures.0

pub loop-i-smaller : goal.loop-i-smaller
loop-i-smaller c = falls _ c.loop-i.i c.loop-i-test.true

pub returns : goal.returns
returns c =
    let w = c.args.work.now.wanted.now in
    let p = c.args.work.now.placed.now in
    let b = c.args.work.now.bytes.now in
    let places = b.places in
    let n = length places in
    let draft = c.loop-i.draft in
    let all : c.loop-i.i ≡ n = omega (arith, c.loop-i-test.false, c.loop-i.auto.i-end, ap length c.as_slice-i-end.ensures) in
    subst (λ (xs : List ℕ). AddsPlaces w p b c.args.work.now.sector.now c.args.fresh 0 n xs c.args.draft.now draft) (take_all n places (omega arith))
    (subst (λ (m : ℕ). AddsPlaces w p b c.args.work.now.sector.now c.args.fresh 0 m (take m places) c.args.draft.now draft) all c.loop-i.invariant.places)

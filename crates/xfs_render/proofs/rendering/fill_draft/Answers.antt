use Rattle.std.proofs.Common.{◌≡◌, ◌∙◌, ◌≤◌, ◌<◌, ℕ, List, length, ap, sym, subst, arith}
use Rattle.std.proofs.lemmas.Result.{IfOk-from_err}
use Rattle.std.specs.List.{All}
use Rattle.xfs_render.specs.Objects.{asks_with_kind}
use Rattle.xfs_render.specs.Plans.{IsArranged}
use Rattle.xfs_render.specs.declared.object_blocks.ObjectBlock.{ObjectBlock}
use Rattle.xfs_render.proofs.ObjectSteps.{blocks_low}
use Rattle.xfs_render.proofs.RenderSteps.{grown, rendered}
use Rattle.xfs_render.proofs.rendering.fill_draft.Goals as goal

pub add_objects-requires-clause-count : goal.add_objects-requires-clause-count
add_objects-requires-clause-count c = c.requires.ready.objects ∙ sym (ap length c.requires.objects)

pub add_objects-requires-clause-inside : goal.add_objects-requires-clause-inside
add_objects-requires-clause-inside c =
    let w = c.args.work.now.wanted.now in
    let p = c.args.work.now.placed.now in
    subst (λ (blocks : List ObjectBlock). All (λ (at : ObjectBlock). at.place < w.geometry.dblocks) blocks) (sym c.requires.objects)
    (blocks_low w.geometry.dblocks (asks_with_kind w.objects) p.cuts p.runs c.requires.ready.runs)

pub returns-clause-inside : goal.returns-clause-inside
returns-clause-inside c =
    let f3 = c.add_places.new.draft in
    let r1 = c.add_places-2.new.draft in
    let r2 = c.add_blank.new.draft in
    let first : c.len-first.result ≡ length f3.rows.items = omega (arith, c.len-first.ensures, f3.rows.ok.0) in
    let one : length f3.rows.items ≤ length r1.rows.items = grown f3 r1 _ _ c.in_ok-add_places-2.ensures.adds in
    let two : length r1.rows.items ≤ length r2.rows.items = grown r1 r2 _ _ c.in_ok-add_blank.ensures.adds in
    omega (arith, first, one, two)

pub returns-clause-rendered : goal.returns-clause-rendered
returns-clause-rendered c =
    λ plan arranged.
    let w = c.args.work.now.wanted.now in
    let p = c.args.work.now.placed.now in
    let b = c.args.work.now.bytes.now in
    let f1 = c.add_groups.new.draft in
    let f2 = c.add_objects.new.draft in
    let f3 = c.add_places.new.draft in
    let r1 = c.add_places-2.new.draft in
    let r2 = c.add_blank.new.draft in
    let first : c.len-first.result ≡ length f3.rows.items = omega (arith, c.len-first.ensures, f3.rows.ok.0) in
    rendered w p b c.args.work.now.sector.now c.args.draft.now f1 f2 f3 r1 r2 c.args.objects.now plan c.requires.none c.requires.empty c.requires.ready.groups c.requires.objects
    c.requires.due c.in_ok-add_groups.ensures c.in_ok-add_objects.ensures c.in_ok-add_places.ensures c.in_ok-add_places-2.ensures c.in_ok-add_blank.ensures
    (subst (λ (n : ℕ). IsArranged r2 n plan) first arranged)

pub add_groups-requires-clause-ready : goal.add_groups-requires-clause-ready
add_groups-requires-clause-ready c = c.requires.ready

pub add_groups-requires-clause-draft : goal.add_groups-requires-clause-draft
add_groups-requires-clause-draft c = c.requires.draft

pub add_objects-requires-clause-draft : goal.add_objects-requires-clause-draft
add_objects-requires-clause-draft c = c.in_ok-add_groups.ensures.adds.whole

pub add_places-requires-clause-ready : goal.add_places-requires-clause-ready
add_places-requires-clause-ready c = c.requires.ready

pub add_places-requires-clause-sector : goal.add_places-requires-clause-sector
add_places-requires-clause-sector c = c.requires.sector

pub add_places-requires-clause-reaches : goal.add_places-requires-clause-reaches
add_places-requires-clause-reaches c = c.requires.reaches

pub add_places-requires-clause-draft : goal.add_places-requires-clause-draft
add_places-requires-clause-draft c = c.in_ok-add_objects.ensures.adds.whole

pub add_places-requires-2-clause-ready : goal.add_places-requires-2-clause-ready
add_places-requires-2-clause-ready c = c.requires.ready

pub add_places-requires-2-clause-sector : goal.add_places-requires-2-clause-sector
add_places-requires-2-clause-sector c = c.requires.sector

pub add_places-requires-2-clause-reaches : goal.add_places-requires-2-clause-reaches
add_places-requires-2-clause-reaches c = c.requires.reaches

pub add_places-requires-2-clause-draft : goal.add_places-requires-2-clause-draft
add_places-requires-2-clause-draft c = c.in_ok-add_places.ensures.adds.whole

pub add_blank-requires-clause-cycle : goal.add_blank-requires-clause-cycle
add_blank-requires-clause-cycle c = c.requires.ready.cycle

pub add_blank-requires-clause-draft : goal.add_blank-requires-clause-draft
add_blank-requires-clause-draft c = c.in_ok-add_places-2.ensures.adds.whole

pub returns-clause-draft : goal.returns-clause-draft
returns-clause-draft c = c.in_ok-add_blank.ensures.adds.whole

pub returns-in_err-add_groups : goal.returns-in_err-add_groups
returns-in_err-add_groups c = record {
  draft = IfOk-from_err c.from_residual.result _ c.from_residual.ensures.0;
  inside = IfOk-from_err c.from_residual.result _ c.from_residual.ensures.0;
  rendered = IfOk-from_err c.from_residual.result _ c.from_residual.ensures.0;
}

pub returns-in_err-add_objects : goal.returns-in_err-add_objects
returns-in_err-add_objects c = record {
  draft = IfOk-from_err c.from_residual-in_err-add_objects.result _ c.from_residual-in_err-add_objects.ensures.0;
  inside = IfOk-from_err c.from_residual-in_err-add_objects.result _ c.from_residual-in_err-add_objects.ensures.0;
  rendered = IfOk-from_err c.from_residual-in_err-add_objects.result _ c.from_residual-in_err-add_objects.ensures.0;
}

pub returns-in_err-add_places : goal.returns-in_err-add_places
returns-in_err-add_places c = record {
  draft = IfOk-from_err c.from_residual-in_err-add_places.result _ c.from_residual-in_err-add_places.ensures.0;
  inside = IfOk-from_err c.from_residual-in_err-add_places.result _ c.from_residual-in_err-add_places.ensures.0;
  rendered = IfOk-from_err c.from_residual-in_err-add_places.result _ c.from_residual-in_err-add_places.ensures.0;
}

pub returns-in_err-add_places-2 : goal.returns-in_err-add_places-2
returns-in_err-add_places-2 c = record {
  draft = IfOk-from_err c.from_residual-in_err-add_places-2.result _ c.from_residual-in_err-add_places-2.ensures.0;
  inside = IfOk-from_err c.from_residual-in_err-add_places-2.result _ c.from_residual-in_err-add_places-2.ensures.0;
  rendered = IfOk-from_err c.from_residual-in_err-add_places-2.result _ c.from_residual-in_err-add_places-2.ensures.0;
}

pub returns-in_err-add_blank : goal.returns-in_err-add_blank
returns-in_err-add_blank c = record {
  draft = IfOk-from_err c.from_residual-in_err-add_blank.result _ c.from_residual-in_err-add_blank.ensures.0;
  inside = IfOk-from_err c.from_residual-in_err-add_blank.result _ c.from_residual-in_err-add_blank.ensures.0;
  rendered = IfOk-from_err c.from_residual-in_err-add_blank.result _ c.from_residual-in_err-add_blank.ensures.0;
}

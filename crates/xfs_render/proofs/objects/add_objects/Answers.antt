use Rattle.std.proofs.Common.{◌≡◌, ℕ, [], List, get_or, sym, subst, ◌<◌, length, arith}
use Rattle.std.proofs.lemmas.Result.{IfOk-from_err}
use Rattle.std.proofs.lemmas.List.{get_or_default}
use borrow.Author.Count.{falls}
use Rattle.xfs_geom.specs.Volumes.{volume_of}
use Rattle.xfs_place.specs.declared.wanted.ObjectKind.TheVariants.{Directory}
use Rattle.xfs_render.specs.Objects.{AddsObjects}
use Rattle.xfs_render.specs.declared.object_blocks.ObjectBlock.{ObjectBlock}
use Rattle.xfs_render.proofs.ObjectSteps.{objects_more, objects_none}
use Rattle.xfs_render.proofs.objects.add_objects.Goals as goal

pub loop-j-init : goal.loop-j-init
loop-j-init c = record { objects = objects_none (volume_of c.args.g.now) c.args.blocks.now c.args.built.now c.args.draft.now c.requires.draft }

pub loop-j-preserved : goal.loop-j-preserved
loop-j-preserved c =
    let v = volume_of c.args.g.now in
    let blocks = c.args.blocks.now in
    let built = c.args.built.now in
    let j = c.loop-j.j in
    let at : ObjectBlock = get_or blocks j (record { kind = Directory; owner = 0; place = 0 }) in
    let put = c.in_ok-add_object.ensures in
    record {
      objects = objects_more v blocks built j at put.block c.args.draft.now c.loop-j.draft c.add_object.new.draft c.loop-j-test.true
          (get_or_default blocks j (record { kind = Directory; owner = 0; place = 0 }) at c.loop-j-test.true) put.due c.loop-j.invariant.objects put.adds;
    }

pub add_object-requires-clause-inside : goal.add_object-requires-clause-inside
add_object-requires-clause-inside c = c.requires.inside c.loop-j.j (record { kind = Directory; owner = 0; place = 0 }) c.loop-j-test.true

pub add_object-requires-clause-built : goal.add_object-requires-clause-built
add_object-requires-clause-built c = subst (λ (n : ℕ). c.loop-j.j < n) (sym c.requires.count) c.loop-j-test.true

pub add_object-requires-clause-draft : goal.add_object-requires-clause-draft
add_object-requires-clause-draft c = c.loop-j.invariant.objects.adds.whole

pub returns-in_err-add_object : goal.returns-in_err-add_object
returns-in_err-add_object c = IfOk-from_err c.from_residual.result _ c.from_residual.ensures.0

pub loop-j-smaller : goal.loop-j-smaller
loop-j-smaller c = falls (length c.args.blocks.now) c.loop-j.j c.loop-j-test.true

pub returns : goal.returns
returns c =
    let all : c.loop-j.j ≡ length c.args.blocks.now = omega (arith, c.loop-j-test.false, c.loop-j.auto.j-end) in
    subst (λ (n : ℕ). AddsObjects (volume_of c.args.g.now) c.args.blocks.now c.args.built.now n c.args.draft.now c.loop-j.draft) all c.loop-j.invariant.objects

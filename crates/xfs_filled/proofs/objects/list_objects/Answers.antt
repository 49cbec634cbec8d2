use Rattle.std.proofs.Common.{◌<◌, length, arith, sym, subst, ap, ◌∙◌, []}
use Rattle.std.proofs.lemmas.Result.{IfOk-from_err}
use Rattle.std.specs.List.{All, flat_map}
use Rattle.std.proofs.lemmas.List.{take_all}
use borrow.Author.Count.{falls}
use Rattle.xfs_geom.specs.Volumes.{volume_of}
use Rattle.xfs_render.proofs.ObjectSteps.{flat_more}
use Rattle.xfs_filled.specs.Objects.{objects_of_place}
use Rattle.xfs_filled.proofs.Asking.{objects_are, order_inside}
use Rattle.xfs_filled.proofs.objects.list_objects.Goals as goal

pub push_object-requires-clause-inside : goal.push_object-requires-clause-inside
push_object-requires-clause-inside c =
    let ns = c.args.site.now.nodes.now in
    subst (All (λ k. k < length ns)) (sym c.requires.site.order') (order_inside ns) c.loop-k.k-index 0 c.loop-k-test.true

pub returns : goal.returns
returns c =
    let site = c.args.site.now in
    let v = volume_of site.geometry.now in
    let f = objects_of_place v site.starts.now site.nodes.now site.contents.now in
    let past = c.loop-k-test.false in
    c.loop-k.invariant.all ∙ ap (flat_map f) (take_all c.loop-k.k-index site.order.now (omega (arith, past)) ∙ c.requires.site.order') ∙ objects_are v site.starts.now site.nodes.now site.contents.now

pub loop-k-init : goal.loop-k-init
loop-k-init c = record { all = c.new-objects.ensures.items }

pub push_object-requires-clause-site : goal.push_object-requires-clause-site
push_object-requires-clause-site c = c.requires.site

pub loop-k-smaller : goal.loop-k-smaller
loop-k-smaller c = falls _ c.loop-k.k-index c.loop-k-test.true

pub returns-in_err-push_object : goal.returns-in_err-push_object
returns-in_err-push_object c = IfOk-from_err c.from_residual.result _ c.from_residual.ensures.0

pub loop-k-preserved : goal.loop-k-preserved
loop-k-preserved c =
    let site = c.args.site.now in
    let f = objects_of_place (volume_of site.geometry.now) site.starts.now site.nodes.now site.contents.now in
    record {
      all = flat_more f [] c.loop-k.objects.items c.push_object.new.objects.items site.order.now c.loop-k.k-index 0 c.loop-k-test.true c.loop-k.invariant.all c.in_ok-push_object.ensures;
    }

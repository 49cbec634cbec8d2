use borrow.Author.Rules.{scaled_Fits}
use Rattle.std.proofs.lemmas.Result.{IfOk-from_err}
use borrow.Author.Count.{falls}
use Rattle.std.proofs.Common.{◌<◌, [], length, map, get_or, sym, subst, ap, arith, ◌∙◌, refl}
use Rattle.std.proofs.lemmas.List.{take_all}
use Rattle.xfs_geom.specs.Volumes.{volume_of}
use Rattle.xfs_forest.specs.Forest.{contents_of, reads_as, IsDone, IsGrowing}
use Rattle.xfs_forest.proofs.Forests.{finished_more, rest_after}
use Rattle.xfs_forest.proofs.planting.finish_all.Goals as goal

pub finish-requires : goal.finish-requires
finish-requires g c =
    let i = c.loop-i.i in
    let x = c.index-trees-i.result in
    let bounds = c.type_bounds in (
      record { owned = bounds.send-K-Record.owned; leaving = bounds.send-K-Record.leaving },
      (
        record { owned = bounds.send-K-Key.owned; leaving = bounds.send-K-Key.leaving },
        (
          record { shared = bounds.sync-K.shared },
          (
            record { shared = bounds.sync-K-Record.shared },
            (
              record { shared = bounds.sync-K-Key.shared },
              subst IsDone (sym (c.loop-i.invariant.rest i x (omega arith))) (c.requires.done i x (omega (arith, c.loop-i.invariant.ends))),
            ),
          ),
        ),
      ),
    )

pub loop-i-preserved : goal.loop-i-preserved
loop-i-preserved g c =
    let i = c.loop-i.i in
    let x = c.index-trees-i.result in
    let before = c.loop-i.invariant in
    let plants = c.args.plants.now in
    let v = volume_of c.args.g.now in
    let s = g.K.Kind.shape in
    let inside : i < length plants = omega (arith, before.ends) in
    record {
      ends = before.ends;
      rest = rest_after c.args.trees.now c.loop-i.trees i c.finish.new.tree before.rest;
      read = λ image growing. finished_more contents_of (reads_as s v image) c.loop-i.grown.items c.push.new.self.items plants i c.finish.result inside c.in_ok-push.ensures.items
          (before.read image growing)
          (λ p. c.finish.ensures (s (get_or plants i p).kind) v image (reads_as s v image (get_or plants i p))
          (subst (λ tree. IsGrowing (s (get_or plants i p).kind) v image (reads_as s v image (get_or plants i p)) tree []) (sym (before.rest i x (omega arith))) (growing i p x inside)));
    }

pub returns : goal.returns
returns g c = λ image growing.
    c.loop-i.invariant.read image growing ∙ ap (map (reads_as g.K.Kind.shape (volume_of c.args.g.now) image)) (take_all c.loop-i.i c.args.plants.now (omega (arith, c.loop-i.invariant.ends)))

pub loop-i-init : goal.loop-i-init
loop-i-init g c = record { ends = refl; rest = λ j d later. refl; read = λ image growing. ap (map contents_of) c.in_ok-grown.ensures.items }

pub bounds-trees-i : goal.bounds-trees-i
bounds-trees-i g c = omega (arith, c.loop-i.invariant.ends, c.requires.count)

pub returns-in_err-grown : goal.returns-in_err-grown
returns-in_err-grown g c = IfOk-from_err c.from_residual.result _ c.from_residual.ensures.0

pub returns-in_err-push : goal.returns-in_err-push
returns-in_err-push g c = IfOk-from_err c.from_residual-in_err-push.result _ c.from_residual-in_err-push.ensures.0

pub loop-i-smaller : goal.loop-i-smaller
loop-i-smaller g c = falls _ c.loop-i.i c.loop-i-test.true

pub offset_bounds-trees-i : goal.offset_bounds-trees-i
offset_bounds-trees-i g c = scaled_Fits c.loop-i.i (length c.args.trees.now) _ (omega (arith, c.loop-i-test.true, c.loop-i.invariant.ends, c.requires.count)) c.well_formed.1.1.1.0.1

use borrow.Author.Rules.{scaled_Fits}
use Rattle.std.proofs.Common.{◌<◌, length, get_or, sym, subst, arith}
use Rattle.std.proofs.lemmas.List.{get_or_default}
use Rattle.std.proofs.lemmas.Result.{IfOk-from_err}
use Rattle.xfs_geom.specs.Volumes.{volume_of}
use Rattle.xfs_forest.specs.Forest.{of_tree, reads_as, spots_of, IsGrowing, IsOnward}
use Rattle.xfs_forest.proofs.Forests.{both_set, forest_set, forest_sound, onward_on, onward_same, passed_onward, room_less}
use Rattle.xfs_forest.proofs.sweeping.pass_next.Goals as goal

pub returns : goal.returns
returns g c =
    record {
      forest = let n = length c.args.plants.now in
          let end = c.args.g.now.dblocks in
          let tree = get_or c.args.trees.now c.args.t c.index-trees-t.result in
          forest_sound n end c.args.t c.args.trees.now tree c.pass_seat.new.tree c.args.cells.now.items c.pass_seat.new.cells.items c.requires.number c.requires.forest
          c.in_ok-pass_seat.ensures.passed
          (c.in_ok-pass_seat.ensures.listed n end c.requires.number (c.requires.next c.index-trees-t.result).inside c.requires.forest.listed);
      onward = let t = c.args.t in
          let trees = c.args.trees.now in
          let inside : t < length trees = omega (arith, c.requires.number, c.requires.forest.count) in
          both_set IsOnward trees trees t c.pass_seat.new.tree onward_on inside (λ i d within. onward_same (get_or trees i d))
          (λ d. subst (λ tree. IsOnward tree c.pass_seat.new.tree) (get_or_default trees t c.index-trees-t.result d inside)
          (passed_onward (get_or trees t c.index-trees-t.result) c.pass_seat.new.tree c.in_ok-pass_seat.ensures.passed));
      less = let t = c.args.t in
          let trees = c.args.trees.now in
          let inside : t < length trees = omega (arith, c.requires.number, c.requires.forest.count) in
          room_less t trees c.index-trees-t.result c.pass_seat.new.tree inside c.in_ok-pass_seat.ensures.passed (c.requires.next c.index-trees-t.result).more;
      grows = λ image growing.
          let t = c.args.t in
          let plants = c.args.plants.now in
          let trees = c.args.trees.now in
          let x = c.index-trees-t.result in
          let s = g.K.Kind.shape in
          let v = volume_of c.args.g.now in
          let inside : t < length trees = omega (arith, c.requires.number, c.requires.forest.count) in
          forest_set s v image plants trees t c.pass_seat.new.tree (spots_of c.args.cells.now.items) (spots_of c.pass_seat.new.cells.items) inside
          (λ p d here. c.in_ok-pass_seat.ensures.grows (s (get_or plants t p).kind) v image (reads_as s v image (get_or plants t p)) (c.requires.next x).next (sym (c.requires.broken p x)) c.requires.alone
          (subst (λ tree. IsGrowing (s (get_or plants t p).kind) v image (reads_as s v image (get_or plants t p)) tree (of_tree t (spots_of c.args.cells.now.items))) (get_or_default trees t d x inside) here))
          c.in_ok-pass_seat.ensures.others growing;
    }

pub pass_seat-requires-clause-more : goal.pass_seat-requires-clause-more
pass_seat-requires-clause-more g c = λ κs lives. (c.requires.next c.index-trees-t.result).more

pub pass_seat-requires-clause-met : goal.pass_seat-requires-clause-met
pass_seat-requires-clause-met g c = λ κs lives. c.requires.forest.met c.args.t c.index-trees-t.result c.requires.number

pub pass_seat-requires-clause-fresh : goal.pass_seat-requires-clause-fresh
pass_seat-requires-clause-fresh g c = λ κs lives. (c.requires.next c.index-trees-t.result).fresh

pub returns-in_err-pass_seat : goal.returns-in_err-pass_seat
returns-in_err-pass_seat g c =
    record {
      forest = IfOk-from_err c.from_residual.result _ c.from_residual.ensures.0;
      onward = IfOk-from_err c.from_residual.result _ c.from_residual.ensures.0;
      less = IfOk-from_err c.from_residual.result _ c.from_residual.ensures.0;
      grows = IfOk-from_err c.from_residual.result _ c.from_residual.ensures.0;
    }

pub bounds-trees-t : goal.bounds-trees-t
bounds-trees-t g c = omega (arith, c.requires.number, c.requires.forest.count)

pub offset_bounds-trees-t : goal.offset_bounds-trees-t
offset_bounds-trees-t g c = scaled_Fits c.args.t (length c.args.trees.now) _ (omega (arith, c.requires.number, c.requires.forest.count)) c.well_formed.1.1.1.1.0.1

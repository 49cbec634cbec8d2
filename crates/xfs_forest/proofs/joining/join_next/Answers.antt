use borrow.Author.Rules.{scaled_Fits}
use Rattle.std.proofs.lemmas.Result.{IfOk-from_err}
use Rattle.std.proofs.Common.{◌<◌, length, get_or, subst, arith}
use Rattle.std.proofs.lemmas.List.{get_or_default}
use Rattle.xfs_geom.specs.Volumes.{volume_of}
use Rattle.xfs_forest.specs.Forest.{IsKept}
use Rattle.xfs_forest.proofs.Forests.{both_set, forest_joined, kept_on, kept_same}
use Rattle.xfs_forest.proofs.joining.join_next.Goals as goal

pub returns : goal.returns
returns g c =
    record {
      kept = let t = c.args.cell.now.spot.tree in
          let trees = c.args.trees.now in
          let inside : t < length trees = omega (arith, c.requires.tree, c.requires.trees) in
          both_set IsKept trees trees t c.join_cell.new.tree kept_on inside (λ i d inside. kept_same (get_or trees i d))
          (λ d. subst (λ tree. IsKept tree c.join_cell.new.tree) (get_or_default trees t c.index-trees-t.result d inside) c.in_ok-join_cell.ensures.kept);
      grows = λ image spots found growing.
          let t = c.args.cell.now.spot.tree in
          let plants = c.args.plants.now in
          let trees = c.args.trees.now in
          let inside : t < length trees = omega (arith, c.requires.tree, c.requires.trees) in
          forest_joined g.K.Kind.shape (volume_of c.args.g.now) image plants trees c.args.cell.now (get_or plants t c.index-plants-t.result) (get_or trees t c.index-trees-t.result) c.join_cell.new.tree spots
          c.requires.tree c.requires.trees (get_or_default plants t c.index-plants-t.result _ c.requires.tree) (get_or_default trees t c.index-trees-t.result _ inside) found
          (λ whole own judged here. c.in_ok-join_cell.ensures.grows image whole own judged here) growing;
    }

pub bounds-plants-t : goal.bounds-plants-t
bounds-plants-t g c = c.requires.tree

pub bounds-trees-t : goal.bounds-trees-t
bounds-trees-t g c = omega (arith, c.requires.tree, c.requires.trees)

pub returns-in_err-join_cell : goal.returns-in_err-join_cell
returns-in_err-join_cell g c =
    record {
      kept = IfOk-from_err c.from_residual.result _ c.from_residual.ensures.0;
      grows = IfOk-from_err c.from_residual.result _ c.from_residual.ensures.0;
    }

pub offset_bounds-plants-t : goal.offset_bounds-plants-t
offset_bounds-plants-t g c = omega (arith, c.requires.tree)

pub offset_bounds-trees-t : goal.offset_bounds-trees-t
offset_bounds-trees-t g c = scaled_Fits c.args.cell.now.spot.tree (length c.args.trees.now) _ (omega (arith, c.requires.tree, c.requires.trees)) c.well_formed.1.1.0.1

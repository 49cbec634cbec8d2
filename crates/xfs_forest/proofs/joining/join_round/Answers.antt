use Rattle.std.proofs.Common.{◌+◌, ◌<◌, length, drop, sym, ap, subst, arith}
use Rattle.xfs_geom.specs.Volumes.{volume_of}
use Rattle.xfs_forest.specs.Forest.{spots_of, AreGrowing, IsFoundIn, IsKept}
use Rattle.xfs_forest.proofs.Forests.{both_both, kept_on, kept_same}
use Rattle.xfs_tree.proofs.RowSteps.{left_from, none_left}
use Rattle.xfs_forest.proofs.joining.join_round.Goals as goal

pub loop-i-init : goal.loop-i-init
loop-i-init g c = record { kept = λ i d inside. kept_same _; grows = λ image found growing. growing }

pub join_next-requires-clause-tree : goal.join_next-requires-clause-tree
join_next-requires-clause-tree g c = λ κs lives.
    let cell = c.index-cells-i.result in
    subst (λ one. one.spot.tree < length c.args.plants.now) (sym c.index-cells-i.is) (c.requires.cells c.loop-i.i cell (omega arith)).tree

pub loop-i-preserved : goal.loop-i-preserved
loop-i-preserved g c =
    let cells = c.args.cells.now in
    let i = c.loop-i.i in
    let cell = c.index-cells-i.result in
    let before = c.loop-i.invariant in
    record {
      kept = both_both IsKept IsKept IsKept c.args.trees.now c.loop-i.trees c.join_next.new.trees (omega arith) kept_on before.kept c.in_ok-join_next.ensures.kept;
      grows = λ image found growing. c.in_ok-join_next.ensures.grows image (spots_of (drop (i + 1) cells))
          (subst (IsFoundIn g.K.Kind.shape (volume_of c.args.g.now) image c.args.plants.now) (sym c.index-cells-i.is) (found i cell (omega arith)))
          (subst (AreGrowing g.K.Kind.shape (volume_of c.args.g.now) image c.args.plants.now c.loop-i.trees) (ap spots_of (left_from cells i cell (omega arith) c.index-cells-i.is))
          (before.grows image found growing));
    }

pub returns-clause-grows : goal.returns-clause-grows
returns-clause-grows g c = λ image found growing.
    subst (AreGrowing g.K.Kind.shape (volume_of c.args.g.now) image c.args.plants.now c.loop-i.trees) (ap spots_of (none_left c.args.cells.now c.loop-i.i (omega arith)))
    (c.loop-i.invariant.grows image found growing)

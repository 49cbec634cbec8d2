use borrow.Author.Count.{falls}
use Rattle.std.proofs.Common.{◌≡◌, [], length, refl, ap, subst, arith}
use Rattle.xfs_forest.specs.Forest.{reads_as, IsForest, IsGrowing}
use Rattle.xfs_forest.proofs.Forests.{begun_more, growing_more}
use Rattle.xfs_forest.proofs.planting.begin_all.Goals as goal

pub loop-i-init : goal.loop-i-init
loop-i-init g c =
    record {
      ends = refl;
      forest = λ end. record { count = ap (λ trees. length trees) c.in_ok-trees.ensures.items; met = λ j d inside. absurd (omega arith); listed = λ j d inside. absurd (omega arith) };
      grows = λ v image t p d inside. absurd (omega arith);
    }

pub loop-i-preserved : goal.loop-i-preserved
loop-i-preserved g c =
    let i = c.loop-i.i in
    let before = c.loop-i.invariant in
    record {
      ends = before.ends;
      forest = λ end. begun_more end i c.loop-i.trees.items c.push.new.self.items c.in_ok-tree.tree c.in_ok-push.ensures.items (before.forest end) c.in_ok-tree.ensures.met;
      grows = λ v image. growing_more g.K.Kind.shape v image c.args.plants.now i c.loop-i.trees.items c.push.new.self.items c.in_ok-tree.tree c.index-plants-i.result
          (omega (arith, before.ends)) (before.forest 0).count c.in_ok-push.ensures.items (before.grows v image)
          (subst (λ plant. IsGrowing (g.K.Kind.shape plant.kind) v image (reads_as g.K.Kind.shape v image plant) c.in_ok-tree.tree []) c.index-plants-i.is (c.in_ok-tree.ensures.grows v image));
    }

pub returns : goal.returns
returns g c =
    record {
      forest = λ end.
          let last : c.loop-i.i ≡ length c.args.plants.now = omega (arith, c.loop-i.invariant.ends) in
          subst (λ n. IsForest n end c.loop-i.trees.items []) last (c.loop-i.invariant.forest end);
      grows = λ v image t p d inside. c.loop-i.invariant.grows v image t p d (omega (arith, inside, c.loop-i.invariant.ends));
    }

pub loop-i-smaller : goal.loop-i-smaller
loop-i-smaller g c = falls _ c.loop-i.i c.loop-i-test.true

pub offset_bounds-plants-i : goal.offset_bounds-plants-i
offset_bounds-plants-i g c = omega (arith, c.loop-i-test.true, c.loop-i.invariant.ends)

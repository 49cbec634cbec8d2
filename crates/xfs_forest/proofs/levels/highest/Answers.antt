use borrow.Author.Count.{falls}
use Rattle.std.proofs.Common.{◌<◌, length, get_or, refl, sym, subst, arith, ◌∙◌}
use Rattle.std.proofs.lemmas.List.{get_or_default}
use Rattle.xfs_forest.specs.Forest.{IsLow}
use Rattle.xfs_forest.proofs.Forests.{below_more, low_up}
use Rattle.xfs_forest.proofs.levels.highest.Goals as goal

pub loop-i-init : goal.loop-i-init
loop-i-init g c = record { ends = refl; all = λ j d inside. absurd (omega arith); least = λ n each. omega arith }

pub loop-i-preserved : goal.loop-i-preserved
loop-i-preserved g c =
    let trees = c.args.trees.now in
    let i = c.loop-i.i in
    let x = c.index-trees-i.result in
    let before = c.loop-i.invariant in
    let inside : i < length trees = omega (arith, before.ends) in
    record {
      ends = before.ends;
      all = λ j d under. below_more (λ k. IsLow c.higher-level.result (get_or trees k d)) i
          (λ k below. low_up c.loop-i.level c.higher-level.result (get_or trees k d) c.higher-level.ensures.same (before.all k d below))
          (subst (IsLow c.higher-level.result) (c.index-trees-i.is ∙ get_or_default trees i x d inside) c.higher-level.ensures.tree) j under;
      least = λ n each. c.higher-level.ensures.least n (before.least n each) (subst (IsLow n) (sym c.index-trees-i.is) (each i x inside));
    }

pub returns-clause-all : goal.returns-clause-all
returns-clause-all g c = λ j d inside. c.loop-i.invariant.all j d (omega (arith, c.loop-i.invariant.ends))

pub loop-i-smaller : goal.loop-i-smaller
loop-i-smaller g c = falls _ c.loop-i.i c.loop-i-test.true

pub offset_bounds-trees-i : goal.offset_bounds-trees-i
offset_bounds-trees-i g c = omega (arith, c.loop-i-test.true, c.loop-i.invariant.ends)

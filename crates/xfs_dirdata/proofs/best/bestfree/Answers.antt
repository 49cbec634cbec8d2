use Rattle.std.proofs.Common.{◌≡◌, ◌∙◌, ap, ◌++◌, [], ◌∷◌, ℕ, ◌-◌, drop, take, arith}
use Rattle.xfs_dirdata.specs.Best.{missing, spans_in_order, bests_of}
use Rattle.xfs_dirdata.proofs.Order.{lead, span_more}
use Rattle.xfs_dirdata.proofs.best.bestfree.Goals as goal

pub loop-left-preserved : goal.loop-left-preserved
loop-left-preserved c =
    let kept = c.loop-left.invariant in
    let left = c.loop-left.left in
    record {
      inside = omega (arith, kept.inside);
      bests = span_more c.args.free.now left (left - 1) c.loop-left.bests c.with_span-bests.result (omega (arith, c.loop-left-test.true))
          (omega (arith, kept.inside, c.loop-left-test.true)) kept.bests c.with_span-bests.ensures;
    }

pub returns-clause-value : goal.returns-clause-value
unfolding bests_of
returns-clause-value c =
    let none : c.loop-left.left ≡ 0 = omega arith in
    c.loop-left.invariant.bests ∙ ap (λ (n : ℕ). take 3 (spans_in_order (drop n c.args.free.now ++ missing ∷ missing ∷ missing ∷ []))) none

pub returns-clause-lead : goal.returns-clause-lead
returns-clause-lead c = lead c.args.free.now c.loop-left.bests (returns-clause-value c)

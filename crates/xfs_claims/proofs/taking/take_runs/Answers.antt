use Rattle.std.proofs.Common.{◌≡◌, ◌+◌, ℕ, List, [], drop, get_or, refl, ap, subst}
use Rattle.std.proofs.Math.ListN.{drop_of_length-le}
use Rattle.std.proofs.lemmas.Result.{IfOk-from_err}
use Rattle.xfs_collections.specs.Blocks.{is_in}
use Rattle.xfs_claims.specs.Spans.{span_pair, spans_of}
use Rattle.xfs_claims.proofs.Gathered.{Taking, spans_next, next_off, taking_next, taken_all, no_run}
use Rattle.xfs_claims.proofs.Counted.{not_counted, one_more, one_within}
use Rattle.xfs_claims.proofs.taking.take_runs.Goals as goal

pub loop-run-init : goal.loop-run-init
loop-run-init g c = (record { off = c.requires.off; apart = c.requires.apart; all = λ b. refl }, not_counted _)

pub add-requires-clause-some : goal.add-requires-clause-some
add-requires-clause-some g c = (c.requires.runs c.loop-run.run-index no_run c.loop-run-test.true).0

pub add-requires-clause-end : goal.add-requires-clause-end
add-requires-clause-end g c = (c.requires.runs c.loop-run.run-index no_run c.loop-run-test.true).1

pub add-requires-clause-apart : goal.add-requires-clause-apart
add-requires-clause-apart g c =
    let runs = c.args.runs.now in
    let i = c.loop-run.run-index in
    next_off (is_in c.args.set.now) (is_in c.loop-run.set) (spans_of runs) (spans_of (drop i runs)) (spans_of (drop (i + 1) runs)) (span_pair (get_or runs i no_run))
    (spans_next runs i no_run c.loop-run-test.true) c.loop-run.invariant.0

pub returns-in_err-add-clause-blocks : goal.returns-in_err-add-clause-blocks
returns-in_err-add-clause-blocks g c = IfOk-from_err c.from_residual.result _ c.from_residual.ensures.0

pub returns-in_err-add-clause-ticks : goal.returns-in_err-add-clause-ticks
returns-in_err-add-clause-ticks g c = one_within _ _ _ _ _ c.loop-run-test.true c.loop-run.invariant.1 c.in_err-add.ensures.ticks

pub loop-run-preserved : goal.loop-run-preserved
loop-run-preserved g c =
    let runs = c.args.runs.now in
    let i = c.loop-run.run-index in (
      taking_next (is_in c.args.set.now) (is_in c.loop-run.set) (is_in c.add.new.self) (spans_of runs) (spans_of (drop i runs)) (spans_of (drop (i + 1) runs))
          (span_pair (get_or runs i no_run)) (spans_next runs i no_run c.loop-run-test.true) c.loop-run.invariant.0 c.in_ok-add.ensures.blocks,
      one_more _ _ _ _ c.loop-run.invariant.1 c.in_ok-add.ensures.ticks,
    )

pub returns-clause-blocks : goal.returns-clause-blocks
returns-clause-blocks g c =
    let none : spans_of (drop c.loop-run.run-index c.args.runs.now) ≡ [] = ap spans_of (drop_of_length-le c.args.runs.now {i = c.loop-run.run-index} c.loop-run-test.false) in
    taken_all (is_in c.args.set.now) (is_in c.loop-run.set) (spans_of c.args.runs.now)
    (subst (λ (x : List (ℕ × ℕ)). Taking (is_in c.args.set.now) (is_in c.loop-run.set) (spans_of c.args.runs.now) x) none c.loop-run.invariant.0)

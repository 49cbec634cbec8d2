use Rattle.std.proofs.Common.{◌≤◌, ◌+◌, List, ◌++◌, map, get_or, refl, ap, arith}
use Rattle.std.proofs.lemmas.Result.{IfOk-from_err}
use Rattle.xfs_geom.specs.declared.records.Span.{Span}
use Rattle.xfs_space.specs.Sorted.{span_in}
use Rattle.xfs_space.proofs.OwnedRuns.{run_next, runs_end}
use Rattle.xfs_space.proofs.Splits.{no_run}
use Rattle.xfs_space.proofs.free_space.spans_of.Goals as goal

pub returns-in_err-spans : goal.returns-in_err-spans
returns-in_err-spans c = IfOk-from_err c.from_residual.result _ c.from_residual.ensures.0

pub loop-run-init : goal.loop-run-init
loop-run-init c = ap (λ (ss : List Span). ss ++ map (span_in c.args.base) c.args.runs.now) c.in_ok-spans.ensures.items

pub overflow_sub-run : goal.overflow_sub-run
overflow_sub-run c = c.requires.behind c.loop-run.run-index no_run c.loop-run-test.true

pub overflow_cast-run : goal.overflow_cast-run
overflow_cast-run c =
    let run = get_or c.args.runs.now c.loop-run.run-index no_run in
    let behind : c.args.base ≤ run.start = c.requires.behind c.loop-run.run-index no_run c.loop-run-test.true in
    let inside : run.start + run.count ≤ c.args.base + c.args.blocks = c.requires.inside c.loop-run.run-index no_run c.loop-run-test.true in
    omega (arith, behind, inside)

pub overflow_cast-run-in-loop-run : goal.overflow_cast-run-in-loop-run
overflow_cast-run-in-loop-run c =
    let run = get_or c.args.runs.now c.loop-run.run-index no_run in
    let behind : c.args.base ≤ run.start = c.requires.behind c.loop-run.run-index no_run c.loop-run-test.true in
    let inside : run.start + run.count ≤ c.args.base + c.args.blocks = c.requires.inside c.loop-run.run-index no_run c.loop-run-test.true in
    omega (arith, behind, inside)

pub loop-run-preserved : goal.loop-run-preserved
loop-run-preserved c =
    run_next (span_in c.args.base) c.args.runs.now c.loop-run.run-index no_run (span_in c.args.base (get_or c.args.runs.now c.loop-run.run-index no_run)) c.loop-run.spans.items
    c.push.new.self.items _ c.loop-run-test.true refl c.in_ok-push.ensures.items c.loop-run.invariant

pub returns : goal.returns
returns c = runs_end (span_in c.args.base) c.args.runs.now c.loop-run.run-index c.loop-run.spans.items _ c.loop-run-test.false c.loop-run.invariant

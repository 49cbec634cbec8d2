use Rattle.std.proofs.Common.{get_or, arith}
use Rattle.std.proofs.lemmas.List.Elements.{All-more}
use Rattle.xfs_claims.specs.Spans.{IsRun}
use Rattle.xfs_claims.proofs.Gathered.{no_run}
use Rattle.xfs_claims.proofs.Different.{all_from_take}
use Rattle.xfs_volume_tests.proofs.claims.sound.are_runs.Goals as goal

pub loop-run-preserved : goal.loop-run-preserved
loop-run-preserved c =
    let one : IsRun (get_or c.args.runs.now c.loop-run.run-index no_run) = (omega arith, omega arith) in
    All-more IsRun c.args.runs.now c.loop-run.run-index no_run c.loop-run-test.true c.loop-run.invariant one

pub returns : goal.returns
returns c = λ t. all_from_take IsRun c.args.runs.now c.loop-run.run-index c.loop-run-test.false c.loop-run.invariant

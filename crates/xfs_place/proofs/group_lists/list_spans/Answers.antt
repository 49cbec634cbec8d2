use Rattle.std.proofs.Common.{length, arith, ◌<◌, ◌^◌, rules}
use Rattle.std.proofs.lemmas.Result.{IfOk-from_err}
use borrow.Author.Count.{falls}
use Rattle.xfs_place.specs.Claims.{span_of_run}
use Rattle.xfs_place.proofs.Mapped.{mapped_all, mapped_more}
use Rattle.xfs_place.proofs.group_lists.list_spans.Goals as goal

pub loop-run-init : goal.loop-run-init
loop-run-init c = c.new-spans.ensures.items

pub loop-run-preserved : goal.loop-run-preserved
loop-run-preserved c = mapped_more span_of_run c.args.owned.now c.loop-run.run-index (record { start = 0; count = 0; owner = 0; offset_word = 0 }) c.loop-run.spans.items c.push.new.self.items c.loop-run-test.true c.loop-run.invariant c.in_ok-push.ensures.items

pub loop-run-smaller : goal.loop-run-smaller
loop-run-smaller c = falls (length c.args.owned.now) c.loop-run.run-index c.loop-run-test.true

pub returns-in_err-push : goal.returns-in_err-push
returns-in_err-push c = IfOk-from_err c.from_residual.result _ c.from_residual.ensures.0

pub returns : goal.returns
returns c = mapped_all span_of_run c.args.owned.now c.loop-run.run-index c.loop-run.spans.items (omega (arith, c.loop-run-test.false)) c.loop-run.invariant

pub overflow_cast-run : goal.overflow_cast-run
overflow_cast-run c =
    let each = c.requires.each c.loop-run.run-index (record { start = 0; count = 0; owner = 0; offset_word = 0 }) c.loop-run-test.true in
    let low : c.args.end < 2 ^ 32 = search rules in
    omega (arith, each.inside, low)

pub overflow_cast-run-in-loop-run : goal.overflow_cast-run-in-loop-run
overflow_cast-run-in-loop-run c =
    let each = c.requires.each c.loop-run.run-index (record { start = 0; count = 0; owner = 0; offset_word = 0 }) c.loop-run-test.true in
    let low : c.args.end < 2 ^ 32 = search rules in
    omega (arith, each.inside, low)

use Rattle.std.proofs.Common.{length, map, refl, ◌∙◌, ap, arith, get_or, ◌<◌, ◌^◌, rules}
use Rattle.std.proofs.lemmas.Result.{IfOk-from_err}
use borrow.Author.Count.{falls}
use Rattle.std.proofs.lemmas.List.{take_all}
use Rattle.xfs_geom.specs.declared.records.Run.{Run}
use Rattle.xfs_geom.specs.declared.records.RmapRec.{RmapRec}
use Rattle.xfs_place.specs.Placing.{run_of_record}
use Rattle.xfs_place.proofs.Mapped.{taken_more}
use Rattle.xfs_place.proofs.group_lists.to_records.Goals as goal

pub loop-run-init : goal.loop-run-init
loop-run-init c = ap (map run_of_record) c.new-records.ensures.items

pub loop-run-preserved : goal.loop-run-preserved
loop-run-preserved c =
    let none : Run = record { start = 0; count = 0; owner = 0; offset_word = 0 } in
    let run = get_or c.args.runs.now c.loop-run.run-index none in
    let made : RmapRec = record { start = run.start; count = run.count; owner = run.owner; offset_word = run.offset_word } in
    taken_more run_of_record c.args.runs.now c.loop-run.run-index none made c.loop-run.records.items c.push.new.self.items c.loop-run-test.true refl c.loop-run.invariant c.in_ok-push.ensures.items

pub loop-run-smaller : goal.loop-run-smaller
loop-run-smaller c = falls (length c.args.runs.now) c.loop-run.run-index c.loop-run-test.true

pub returns-in_err-push : goal.returns-in_err-push
returns-in_err-push c = IfOk-from_err c.from_residual.result _ c.from_residual.ensures.0

pub returns : goal.returns
returns c = c.loop-run.invariant ∙ take_all c.loop-run.run-index c.args.runs.now (omega (arith, c.loop-run-test.false))

pub overflow_cast-run : goal.overflow_cast-run
overflow_cast-run c =
    let each = c.requires.each c.loop-run.run-index (record { start = 0; count = 0; owner = 0; offset_word = 0 }) c.loop-run-test.true in
    let low : c.args.end < 2 ^ 32 = search rules in
    omega (arith, each.inside, low)

pub overflow_cast-run-in-loop-run : goal.overflow_cast-run-in-loop-run
overflow_cast-run-in-loop-run c =
    let each = c.requires.each c.loop-run.run-index (record { start = 0; count = 0; owner = 0; offset_word = 0 }) c.loop-run-test.true in
    let low : c.args.end < 2 ^ 32 = search rules in
    omega (arith, each.inside, low)

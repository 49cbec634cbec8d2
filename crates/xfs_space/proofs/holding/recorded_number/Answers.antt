use Rattle.std.proofs.Common.{List, ◌+◌, drop, map, refl, sym, ◌∙◌, ap}
use Rattle.std.proofs.lemmas.List.{drop_all}
use Rattle.xfs_geom.specs.declared.records.RmapRec.{RmapRec}
use Rattle.xfs_space.specs.SpaceLaws.{recorded_run}
use Rattle.xfs_space.proofs.HeldRuns.{covered, held_here, held_next, none_held}
use Rattle.xfs_space.proofs.Sweep.{head_of, mapped_at}
use Rattle.xfs_space.proofs.holding.recorded_number.Goals as goal

pub loop-record-init : goal.loop-record-init
loop-record-init c = refl

pub number_of-requires-clause-run : goal.number_of-requires-clause-run
number_of-requires-clause-run c =
    mapped_at (recorded_run c.args.base) c.args.records.now c.loop-record.record-index _ c.recorded_run-run.result c.loop-record-test.true c.recorded_run-run.ensures c.requires.records.each

pub number_of-requires-clause-block : goal.number_of-requires-clause-block
number_of-requires-clause-block c = covered c.recorded_run-run.result c.args.block (sym c.covers.ensures ∙ c.if-covers.true)

pub returns-then-covers : goal.returns-then-covers
returns-then-covers c =
    let f = recorded_run c.args.base in
    held_here (map f (drop c.loop-record.record-index c.args.records.now)) c.recorded_run-run.result (map f (drop (c.loop-record.record-index + 1) c.args.records.now)) c.args.block c.number_of.result _
    (head_of f c.args.records.now c.loop-record.record-index _ c.recorded_run-run.result c.loop-record-test.true c.recorded_run-run.ensures) (sym c.covers.ensures ∙ c.if-covers.true)
    c.loop-record.invariant c.number_of.ensures

pub loop-record-preserved : goal.loop-record-preserved
loop-record-preserved c =
    let f = recorded_run c.args.base in
    held_next (map f (drop c.loop-record.record-index c.args.records.now)) c.recorded_run-run.result (map f (drop (c.loop-record.record-index + 1) c.args.records.now)) c.args.block _
    (head_of f c.args.records.now c.loop-record.record-index _ c.recorded_run-run.result c.loop-record-test.true c.recorded_run-run.ensures) (sym c.covers.ensures ∙ c.if-covers.false)
    c.loop-record.invariant

pub returns : goal.returns
returns c =
    none_held (map (recorded_run c.args.base) (drop c.loop-record.record-index c.args.records.now)) c.args.block _
    (ap (λ (rs : List RmapRec). map (recorded_run c.args.base) rs) (drop_all c.loop-record.record-index c.args.records.now c.loop-record-test.false)) c.loop-record.invariant

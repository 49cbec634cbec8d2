use Rattle.std.proofs.Common.{◌+◌, drop, get_or, refl, sym, ◌∙◌}
use Rattle.std.proofs.lemmas.List.{drop_all}
use Rattle.xfs_space.proofs.HeldRuns.{covered, held_here, held_next, none_held}
use Rattle.xfs_space.proofs.Splits.{no_run}
use Rattle.xfs_space.proofs.Sweep.{tail_of}
use Rattle.xfs_space.proofs.holding.held_number.Goals as goal

pub loop-run-init : goal.loop-run-init
loop-run-init c = refl

pub number_of-requires-clause-run : goal.number_of-requires-clause-run
number_of-requires-clause-run c = c.requires.each c.loop-run.run-index no_run c.loop-run-test.true

pub number_of-requires-clause-block : goal.number_of-requires-clause-block
number_of-requires-clause-block c = covered (get_or c.args.runs.now c.loop-run.run-index no_run) c.args.block (sym c.covers.ensures ∙ c.if-covers.true)

pub returns-then-covers : goal.returns-then-covers
returns-then-covers c =
    held_here (drop c.loop-run.run-index c.args.runs.now) (get_or c.args.runs.now c.loop-run.run-index no_run) (drop (c.loop-run.run-index + 1) c.args.runs.now) c.args.block c.number_of.result _
    (tail_of c.args.runs.now c.loop-run.run-index no_run c.loop-run-test.true) (sym c.covers.ensures ∙ c.if-covers.true) c.loop-run.invariant c.number_of.ensures

pub loop-run-preserved : goal.loop-run-preserved
loop-run-preserved c =
    held_next (drop c.loop-run.run-index c.args.runs.now) (get_or c.args.runs.now c.loop-run.run-index no_run) (drop (c.loop-run.run-index + 1) c.args.runs.now) c.args.block _
    (tail_of c.args.runs.now c.loop-run.run-index no_run c.loop-run-test.true) (sym c.covers.ensures ∙ c.if-covers.false) c.loop-run.invariant

pub returns : goal.returns
returns c = none_held (drop c.loop-run.run-index c.args.runs.now) c.args.block _ (drop_all c.loop-run.run-index c.args.runs.now c.loop-run-test.false) c.loop-run.invariant

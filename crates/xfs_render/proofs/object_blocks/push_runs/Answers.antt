use Rattle.std.proofs.Common.{◌∙◌, ◌++◌, List, length, take, ap, sym, append-nil, take_all, arith}
use Rattle.std.proofs.lemmas.Result.{IfOk-from_err}
use Rattle.std.specs.List.{flat_map}
use borrow.Author.Count.{falls}
use Rattle.xfs_geom.specs.declared.records.Run.{Run}
use Rattle.xfs_render.specs.Objects.{run_blocks}
use Rattle.xfs_render.proofs.ObjectSteps.{flat_more}
use Rattle.xfs_render.proofs.object_blocks.push_runs.Goals as goal

pub loop-run-preserved : goal.loop-run-preserved
loop-run-preserved c =
    let d : Run = record { start = 0; count = 0; owner = 0; offset_word = 0 } in
    record {
      all = flat_more (run_blocks c.args.ask.now.kind c.args.ask.now.ask.owner) c.args.blocks.now.items c.loop-run.blocks.items c.push_run.new.blocks.items c.args.runs.now
          c.loop-run.run-index d c.loop-run-test.true c.loop-run.invariant.all c.in_ok-push_run.ensures;
    }

pub loop-run-init : goal.loop-run-init
loop-run-init c = record { all = sym (append-nil c.args.blocks.now.items) }

pub push_run-requires : goal.push_run-requires
push_run-requires c = record { run = c.requires.runs c.loop-run.run-index (record { start = 0; count = 0; owner = 0; offset_word = 0 }) c.loop-run-test.true }

pub loop-run-smaller : goal.loop-run-smaller
loop-run-smaller c = falls (length c.args.runs.now) c.loop-run.run-index c.loop-run-test.true

pub returns-in_err-push_run : goal.returns-in_err-push_run
returns-in_err-push_run c = IfOk-from_err c.from_residual.result _ c.from_residual.ensures.0

pub returns : goal.returns
returns c =
    c.loop-run.invariant.all
    ∙ ap (λ (rs : List Run). c.args.blocks.now.items ++ flat_map (run_blocks c.args.ask.now.kind c.args.ask.now.ask.owner) rs)
    (take_all c.loop-run.run-index c.args.runs.now (omega (arith, c.loop-run-test.false)))

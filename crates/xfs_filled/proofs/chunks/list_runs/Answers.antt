use Rattle.std.proofs.Common.{◌++◌, [], ◌∷◌, ap, ◌∙◌, map, take_all, arith}
use Rattle.std.proofs.lemmas.Result.{IfOk-from_err}
use borrow.Author.Count.{falls}
use Rattle.xfs_geom.specs.declared.records.Run.{Run}
use Rattle.xfs_render.proofs.ObjectSteps.{map_more}
use Rattle.xfs_filled.specs.Chunks.{chunk_at}
use Rattle.xfs_filled.proofs.chunks.list_runs.Goals as goal

pub loop-start-preserved : goal.loop-start-preserved
loop-start-preserved c =
    let now = c.loop-start.runs.items in
    record {
      all = map_more chunk_at [] now c.push.new.self.items c.args.starts.now c.loop-start.start-index 0 c.loop-start-test.true c.loop-start.invariant.all
          (c.in_ok-push.ensures.items ∙ ap (λ (r : Run). now ++ r ∷ []) (c.chunk_at.ensures));
    }

pub loop-start-init : goal.loop-start-init
loop-start-init c = record { all = c.new-runs.ensures.items }

pub loop-start-smaller : goal.loop-start-smaller
loop-start-smaller c = falls _ c.loop-start.start-index c.loop-start-test.true

pub returns-in_err-push : goal.returns-in_err-push
returns-in_err-push c = IfOk-from_err c.from_residual.result _ c.from_residual.ensures.0

pub returns : goal.returns
returns c = c.loop-start.invariant.all ∙ ap (map chunk_at) (take_all c.loop-start.start-index c.args.starts.now (omega (arith, c.loop-start-test.false)))

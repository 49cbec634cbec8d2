use Rattle.std.proofs.Common.{ℕ, arith}
use Rattle.std.proofs.lemmas.Result.{IfOk-from_err}
use borrow.Author.Count.{falls}
use Rattle.xfs_render.specs.declared.object_blocks.ObjectBlock.{ObjectBlock}
use Rattle.xfs_render.proofs.ObjectSteps.{range_map_more}
use Rattle.xfs_render.proofs.object_blocks.push_run.Goals as goal

pub loop-place-preserved : goal.loop-place-preserved
loop-place-preserved c =
    let f : ℕ → ObjectBlock = λ place. record { kind = c.args.ask.now.kind; owner = c.args.ask.now.ask.owner; place = place } in
    record {
      all = range_map_more f c.args.blocks.now.items c.loop-place.blocks.items c.push.new.self.items c.args.run.now.start c.loop-place.place c.loop-place.invariant.from
          c.loop-place.invariant.all c.in_ok-push.ensures.items;
      from = omega (arith, c.loop-place.invariant.from);
    }

pub returns-in_err-push : goal.returns-in_err-push
returns-in_err-push c = IfOk-from_err c.from_residual.result _ c.from_residual.ensures.0

pub loop-place-smaller : goal.loop-place-smaller
loop-place-smaller c = falls _ c.loop-place.place c.loop-place-test.true

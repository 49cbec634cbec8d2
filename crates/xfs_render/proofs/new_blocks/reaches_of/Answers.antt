use Rattle.std.proofs.Common.{◌∙◌, ◌++◌, max, ℕ, List, length, ap, arith}
use Rattle.std.proofs.lemmas.Result.{IfOk-from_err}
use borrow.Author.Count.{falls}
use Rattle.xfs_geom.specs.declared.records.Run.{Run}
use Rattle.xfs_render.specs.declared.new_blocks.Reach.{Reach}
use Rattle.xfs_render.specs.NewBlocks.{reaches_of}
use Rattle.xfs_render.proofs.Reaching.{reached_all, reached_more}
use Rattle.xfs_render.proofs.new_blocks.reaches_of.Goals as goal

pub loop-run-init : goal.loop-run-init
loop-run-init c = ap (λ (xs : List Reach). xs ++ reaches_of 0 c.args.runs.now) c.new-reaches.ensures.items

pub end_of-requires : goal.end_of-requires
end_of-requires c = c.requires c.loop-run.run-index (record { start = 0; count = 0; owner = 0; offset_word = 0 }) c.loop-run-test.true

pub loop-run-preserved : goal.loop-run-preserved
loop-run-preserved c =
    let l = c.loop-run in
    reached_more l.reaches.items c.push.new.self.items (reaches_of 0 c.args.runs.now) c.args.runs.now l.run-index l.far c.max-far.result (record { start = 0; count = 0; owner = 0; offset_word = 0 })
    c.loop-run-test.true (c.max-far.ensures ∙ ap (λ (n : ℕ). max n l.far) c.end_of.ensures) c.in_ok-push.ensures.items l.invariant

pub loop-run-smaller : goal.loop-run-smaller
loop-run-smaller c = falls (length c.args.runs.now) c.loop-run.run-index c.loop-run-test.true

pub returns-in_err-push : goal.returns-in_err-push
returns-in_err-push c = IfOk-from_err c.from_residual.result _ c.from_residual.ensures.0

pub returns : goal.returns
returns c = reached_all c.loop-run.reaches.items (reaches_of 0 c.args.runs.now) c.args.runs.now c.loop-run.run-index c.loop-run.far (omega (arith, c.loop-run-test.false)) c.loop-run.invariant

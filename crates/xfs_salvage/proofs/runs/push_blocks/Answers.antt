-- One block more has its run.
use borrow.Author.Count.{falls}
use Rattle.std.proofs.Common.{ℕ, ◌^◌, get_or, length, refl}
use Rattle.std.proofs.lemmas.Result.{IfOk-from_err}
use Rattle.xfs_views.specs.xfs_space.Owners.{new_run}
use Rattle.xfs_views.proofs.xfs_space.OwnedRuns.{run_next, runs_end}
use Rattle.xfs_salvage.proofs.runs.push_blocks.Goals as goal

pub loop-block-init : goal.loop-block-init
loop-block-init c = refl

pub loop-block-smaller : goal.loop-block-smaller
loop-block-smaller c = falls (length c.args.blocks.now) c.loop-block.block-index c.loop-block-test.true

pub loop-block-preserved : goal.loop-block-preserved
loop-block-preserved c =
    run_next (λ (block : ℕ). new_run block 1 c.args.ino (2 ^ 62)) c.args.blocks.now c.loop-block.block-index 0
    (new_run (get_or c.args.blocks.now c.loop-block.block-index 0) 1 c.args.ino (2 ^ 62)) c.loop-block.runs.items c.push.new.self.items _ c.loop-block-test.true refl
    c.in_ok-push.ensures.items c.loop-block.invariant

pub returns-in_err-push : goal.returns-in_err-push
returns-in_err-push c = IfOk-from_err c.from_residual.result _ c.from_residual.ensures.0

pub returns : goal.returns
returns c =
    runs_end (λ (block : ℕ). new_run block 1 c.args.ino (2 ^ 62)) c.args.blocks.now c.loop-block.block-index c.loop-block.runs.items _ c.loop-block-test.false c.loop-block.invariant

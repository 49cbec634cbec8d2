use Rattle.std.proofs.Common.{ℕ, get_or, refl}
use Rattle.xfs_space.specs.Owners.{new_run}
use Rattle.xfs_space.proofs.OwnedRuns.{run_next, runs_end}
use Rattle.xfs_space.proofs.owners.push_blocks.Goals as goal

pub loop-block-init : goal.loop-block-init
loop-block-init c = refl

pub loop-block-preserved : goal.loop-block-preserved
loop-block-preserved c =
    run_next (λ (block : ℕ). new_run block 1 c.args.owner c.args.offset) c.args.blocks.now c.loop-block.block-index 0
    (new_run (get_or c.args.blocks.now c.loop-block.block-index 0) 1 c.args.owner c.args.offset) c.loop-block.runs.items c.push_run.new.runs.items _ c.loop-block-test.true refl
    c.in_ok-push_run.ensures c.loop-block.invariant

pub returns : goal.returns
returns c =
    runs_end (λ (block : ℕ). new_run block 1 c.args.owner c.args.offset) c.args.blocks.now c.loop-block.block-index c.loop-block.runs.items _ c.loop-block-test.false c.loop-block.invariant

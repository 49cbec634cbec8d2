use Rattle.std.proofs.Common.{ℕ, ◌<◌, not-le_of_lt}
use Rattle.xfs_laws.proofs.Tests.{all_pass, item_fails, item_more, none_yet}
use Rattle.xfs_laws.proofs.parts.are_of_volume.Goals as goal

pub loop-block-init : goal.loop-block-init
loop-block-init c = none_yet (λ (block : ℕ). block < c.args.g.now.dblocks) c.args.blocks.now

pub loop-block-preserved : goal.loop-block-preserved
loop-block-preserved c =
    item_more (λ (block : ℕ). block < c.args.g.now.dblocks) c.args.blocks.now c.loop-block.block-index c.loop-block.invariant 0
    c.loop-block-test.true c.if-block-g.false

pub returns-then-block-g : goal.returns-then-block-g
returns-then-block-g c =
    item_fails (λ (block : ℕ). block < c.args.g.now.dblocks) c.args.blocks.now c.loop-block.block-index 0 c.loop-block-test.true
    (λ less. not-le_of_lt less c.if-block-g.true)

pub returns : goal.returns
returns c =
    all_pass (λ (block : ℕ). block < c.args.g.now.dblocks) c.args.blocks.now c.loop-block.block-index c.loop-block-test.false c.loop-block.invariant

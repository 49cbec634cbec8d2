use Rattle.std.proofs.Common.{ℕ, ◌≡◌, ◌/◌, ◌<◌, not-le_of_lt}
use Rattle.xfs_laws.proofs.Tests.{all_pass, item_fails, item_more, none_yet}
use Rattle.xfs_laws.proofs.parts.are_of_group.Goals.{then-block-g-via-then-block-g, then-block-g-via-else-block-g+then-block-g-2}
use Rattle.xfs_laws.proofs.parts.are_of_group.Goals as goal

pub loop-block-init : goal.loop-block-init
loop-block-init c = none_yet (λ (block : ℕ). (block < c.args.g.now.dblocks) × (block / c.args.g.now.agblocks ≡ c.args.ag)) c.args.blocks.now

pub loop-block-preserved : goal.loop-block-preserved
loop-block-preserved c =
    item_more (λ (block : ℕ). (block < c.args.g.now.dblocks) × (block / c.args.g.now.agblocks ≡ c.args.ag)) c.args.blocks.now c.loop-block.block-index
    c.loop-block.invariant 0 c.loop-block-test.true (c.if-block-g.false, c.if-block-g-2.false)

pub returns-then-block-g : goal.returns-then-block-g
returns-then-block-g c =
    item_fails (λ (block : ℕ). (block < c.args.g.now.dblocks) × (block / c.args.g.now.agblocks ≡ c.args.ag)) c.args.blocks.now c.loop-block.block-index 0
    c.loop-block-test.true (λ lies. elim c.then-block-g.branch [
      | then-block-g-via-then-block-g w ↦ not-le_of_lt lies.0 w.if-block-g.true
      | then-block-g-via-else-block-g+then-block-g-2 w ↦ w.if-block-g-2.true lies.1
    ])

pub returns : goal.returns
returns c =
    all_pass (λ (block : ℕ). (block < c.args.g.now.dblocks) × (block / c.args.g.now.agblocks ≡ c.args.ag)) c.args.blocks.now c.loop-block.block-index
    c.loop-block-test.false c.loop-block.invariant

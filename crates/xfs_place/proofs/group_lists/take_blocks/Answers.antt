use Rattle.std.proofs.Common.{◌+◌, ℕ, map, ◌∙◌, ap, arith}
use Rattle.xfs_place.proofs.Mapped.{mapped_all, mapped_more}
use Rattle.xfs_place.proofs.group_lists.take_blocks.Goals as goal

pub loop-block-init : goal.loop-block-init
loop-block-init c = c.new-places.ensures.items

pub loop-block-preserved : goal.loop-block-preserved
loop-block-preserved c =
    mapped_more (λ (block : ℕ). c.args.base + block) c.part_of-part.result.now c.loop-block.block-index 0 c.loop-block.places.items c.push.new.self.items c.loop-block-test.true
    c.loop-block.invariant c.in_ok-push.ensures.items

pub returns : goal.returns
returns c =
    mapped_all (λ (block : ℕ). c.args.base + block) c.part_of-part.result.now c.loop-block.block-index c.loop-block.places.items (omega (arith, c.loop-block-test.false)) c.loop-block.invariant
    ∙ ap (map (λ (block : ℕ). c.args.base + block)) c.part_of-part.ensures

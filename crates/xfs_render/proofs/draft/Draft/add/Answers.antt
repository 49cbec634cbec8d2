use Rattle.std.proofs.Common.{get_or, refl, arith}
use Rattle.xfs_render.proofs.DraftSteps.{up_to_all, up_to_more, up_to_none}
use Rattle.xfs_render.proofs.draft.Draft.add.Goals as goal

pub loop-i-init : goal.loop-i-init
loop-i-init c = up_to_none c.args.self.now c.args.places.now c.args.blocks.now c.requires.draft

pub loop-i-preserved : goal.loop-i-preserved
loop-i-preserved c =
    up_to_more c.args.self.now c.loop-i.self c.add_block.new.self c.loop-i.i (get_or c.args.places.now c.loop-i.i 0) c.args.places.now c.args.blocks.now c.part.result.now
    c.loop-i-test.true refl c.part.ensures.value c.loop-i.invariant c.in_ok-add_block.ensures

pub returns : goal.returns
returns c =
    up_to_all c.args.self.now c.loop-i.self c.loop-i.i c.args.places.now c.args.blocks.now (omega (arith, c.loop-i-test.false, c.loop-i.auto.i-end)) c.loop-i.invariant

use Rattle.std.proofs.Common.{arith}
use Rattle.xfs_place.proofs.Marking.{range_more, range_none}
use Rattle.xfs_place.proofs.uses.mark.Goals as goal

pub loop-block-init : goal.loop-block-init
loop-block-init c = range_none c.args.uses.now c.args.start c.args.now

pub loop-block-preserved : goal.loop-block-preserved
loop-block-preserved c =
    range_more c.args.uses.now c.loop-block.uses c.args.start c.loop-block.block c.args.now (omega arith) (omega (arith, c.loop-block-test.true, c.requires)) c.loop-block.invariant

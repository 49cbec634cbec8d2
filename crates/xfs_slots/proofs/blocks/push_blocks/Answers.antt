use Rattle.std.proofs.Common.{rules}
use Rattle.xfs_slots.proofs.Rests.{number_more}
use Rattle.xfs_slots.proofs.blocks.push_blocks.Goals as goal

pub loop-i-preserved : goal.loop-i-preserved
loop-i-preserved c =
    record {
      blocks = number_more c.args.cluster c.loop-i.i 4 c.loop-i.blocks.items c.push.new.blocks.items _ (search rules) c.in_ok-push.ensures.more c.loop-i.invariant.blocks;
      low = c.in_ok-push.ensures.low;
    }

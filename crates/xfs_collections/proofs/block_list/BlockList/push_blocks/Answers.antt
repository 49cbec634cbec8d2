use Rattle.std.proofs.Common.{◌/◌, ◌<◌, length, arith, ap}
use Rattle.xfs_collections.proofs.Lists.{all_blocks, next_block}
use Rattle.xfs_collections.proofs.block_list.BlockList.push_blocks.Goals as goal

pub push_block-requires : goal.push_block-requires
push_block-requires c =
    let long = ap length c.bytes.ensures in
    let less = c.loop-i-test.true in
    let end = c.loop-i.auto.i-end in
    record { inside = omega (arith, long, less, end) }

pub loop-i-preserved : goal.loop-i-preserved
loop-i-preserved c =
    let bytes = c.args.bytes.now in
    let long = ap length c.bytes.ensures in
    let less = c.loop-i-test.true in
    let end = c.loop-i.auto.i-end in
    let low : c.loop-i.i < length bytes / 4096 = omega (arith, long, less, end) in
    record { all = next_block bytes (length bytes / 4096) c.loop-i.i c.args.self.now c.loop-i.self c.push_block.new.self low c.loop-i.invariant.all c.in_ok-push_block.ensures }

pub returns : goal.returns
returns c =
    let bytes = c.args.bytes.now in
    let long = ap length c.bytes.ensures in
    let past = c.loop-i-test.false in
    let end = c.loop-i.auto.i-end in
    all_blocks bytes (length bytes / 4096) c.loop-i.i c.args.self.now c.loop-i.self (omega (arith, long, past, end)) c.loop-i.invariant.all

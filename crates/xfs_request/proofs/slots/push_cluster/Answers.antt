use Rattle.std.proofs.Common.{◌+◌, ◌-◌}
use Rattle.xfs_geom.specs.Volumes.{volume_of}
use Rattle.xfs_request.specs.Slots.{block_slots}
use Rattle.xfs_request.proofs.Rows.{one_less, range_more}
use Rattle.xfs_request.proofs.slots.push_cluster.Goals as goal

pub loop-block-preserved : goal.loop-block-preserved
loop-block-preserved c =
    let end = c.args.cluster + 4 in
    let block = c.loop-block.block in
    range_more (block_slots (volume_of c.args.basis.now.g.now) c.args.basis.now.stamp.now c.args.basis.now.kept.now c.args.basis.now.slots.now) c.loop-block.slots.items c.push_block.new.slots.items _ block (end - block) (end - (block + 1))
    (one_less end block c.loop-block-test.true) c.in_ok-push_block.ensures c.loop-block.invariant

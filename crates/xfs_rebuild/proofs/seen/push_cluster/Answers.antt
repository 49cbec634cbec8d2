use Rattle.std.proofs.Common.{◌+◌, ◌-◌, arith}
use Rattle.xfs_geom.specs.Volumes.{volume_of}
use Rattle.xfs_image.specs.Slots.{inodes_of_block}
use Rattle.xfs_rebuild.proofs.Listed.{range_more}
use Rattle.xfs_rebuild.proofs.seen.push_cluster.Goals as goal

pub loop-block-preserved : goal.loop-block-preserved
loop-block-preserved c =
    let end = c.args.cluster + 4 in
    let block = c.loop-block.block in
    range_more (inodes_of_block (volume_of c.args.g.now)) c.loop-block.inodes.items c.push_block.new.inodes.items _ block (end - block) (end - (block + 1))
    (omega (arith, c.loop-block-test.true)) c.in_ok-push_block.ensures c.loop-block.invariant

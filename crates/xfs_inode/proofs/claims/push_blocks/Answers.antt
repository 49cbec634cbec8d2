use Rattle.std.proofs.Common.{◌++◌, map}
use Rattle.xfs_inode.specs.Files.{range_of_block}
use Rattle.xfs_inode.proofs.Pushed.{pushed, pushed_all}
use Rattle.xfs_inode.proofs.claims.push_blocks.Goals as goal

pub loop-block-preserved : goal.loop-block-preserved
loop-block-preserved c =
    let blocks = c.args.blocks.now in
    pushed range_of_block blocks c.loop-block.block-index 0 c.range_of_block.result c.loop-block.runs.items c.push.new.self.items (c.args.runs.now.items ++ map range_of_block blocks)
    c.loop-block-test.true c.range_of_block.ensures c.in_ok-push.ensures.items c.loop-block.invariant

pub returns : goal.returns
returns c =
    let blocks = c.args.blocks.now in
    pushed_all range_of_block blocks c.loop-block.block-index c.loop-block.runs.items (c.args.runs.now.items ++ map range_of_block blocks) c.loop-block-test.false c.loop-block.invariant

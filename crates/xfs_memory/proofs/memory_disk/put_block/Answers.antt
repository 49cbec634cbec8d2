-- The part that was written has the block's length.
use Rattle.xfs_memory.proofs.Places.{with_block-put_mid}
use Rattle.xfs_memory.proofs.memory_disk.put_block.Goals as goal

pub returns : goal.returns
returns c = with_block-put_mid c.args.bytes.now c.args.from.now c.copy_from_slice.new.self c.args.at c.requires.inside c.copy_from_slice.ensures.after c.requires.whole

-- The bytes are the blocks of the image in a row.
use Rattle.std.proofs.Common.{sym, ◌∙◌}
use Rattle.xfs_memory.proofs.Places.{concat-blocks_of}
use Rattle.xfs_memory.proofs.memory_disk.MemoryDisk.image.Goals as goal

pub returns-clause-bytes : goal.returns-clause-bytes
returns-clause-bytes c = c.as_slice.ensures.value ∙ sym (concat-blocks_of c.args.self.now.blocks c.args.self.now.bytes.items c.args.self.now.whole)

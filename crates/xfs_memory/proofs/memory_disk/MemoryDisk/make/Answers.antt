-- All zero bytes are blocks of zeros.
use Rattle.std.proofs.Common.{◌≡◌, ℕ, List, ◌*◌, replicate, rules, ap, ◌∙◌, Some}
use Rattle.xfs_disk.specs.Blocks.{Image}
use Rattle.xfs_disk.specs.Memory.{blocks_of_bytes}
use Rattle.xfs_memory.proofs.Places.{blocks_of-replicate}
use Rattle.xfs_memory.proofs.memory_disk.MemoryDisk.make.Goals as goal

pub returns-in-Ok-clause-zero : goal.returns-in-Ok-clause-zero
returns-in-Ok-clause-zero c =
    let zeros : c.in-Ok.bytes.items ≡ replicate (c.args.blocks * 4096) 0 = search rules in
    ap (λ (xs : List ℕ). Some (blocks_of_bytes c.args.blocks xs)) zeros ∙ ap (λ (i : Image). Some i) (blocks_of-replicate c.args.blocks)

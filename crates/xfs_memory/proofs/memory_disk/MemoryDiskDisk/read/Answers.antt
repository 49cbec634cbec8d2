-- The part of the bytes that is read is the block.
use Rattle.std.proofs.Common.{◌≡◌, ℕ, List, ◌+◌, ◌-◌, ◌*◌, take, drop, Some, arith, ap, sym, ◌∙◌}
use Rattle.std.specs.Prelude.{slice_get}
use Rattle.xfs_disk.specs.Blocks.{Image}
use Rattle.xfs_memory.proofs.Places.{slice_get-blocks_of}
use Rattle.xfs_memory.proofs.memory_disk.MemoryDiskDisk.read.Goals as goal

pub returns-clause-bytes : goal.returns-clause-bytes
returns-clause-bytes c =
    let after = c.is_failing.new.self in
    let size : c.args.at * 4096 + 4096 - c.args.at * 4096 ≡ 4096 = omega arith in
    let part : c.copy_from_slice.new.self ≡ take 4096 (drop (c.args.at * 4096) after.bytes.items) = c.copy_from_slice.ensures.after ∙ (λ k. take (size k) (drop (c.args.at * 4096) (c.deref.ensures.value k))) in
    ap (λ (image : Image). slice_get image c.args.at) (sym c.is_failing.ensures.disk.image) ∙ slice_get-blocks_of after.blocks c.args.at after.bytes.items (omega arith) ∙ ap (λ (block : List ℕ). Some block) (sym part)

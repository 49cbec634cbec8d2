-- The bytes afterwards are those before with the block in its place.
use Rattle.std.specs.List.{All, concat}
use Rattle.xfs_disk.specs.Counts.{CountsFailure}
use Rattle.xfs_memory.specs.Schedule.{after_write, CountsCall}
use Rattle.xfs_disk.specs.MemoryImage.{is_told_image}
use Rattle.xfs_memory.specs.MemoryDisk.{size_of, image_of, faults_of, write_faults_of, schedule_of, stop_of, HasStopped, FailsNext}
use Rattle.std.proofs.Common.{◌≡◌, ◌<◌, length, rules, ap, ◌∙◌, arith}
use Rattle.std.specs.Vec.{with_items}
use Rattle.std.proofs.lemmas.List.Elements.{All-same}
use Rattle.xfs_disk.specs.Memory.{with_block}
use Rattle.xfs_memory.proofs.Places.{image-with_block, items-with_block, bytes_fit, length-with_block, All-with_block}
use Rattle.xfs_memory.proofs.memory_disk.MemoryDiskDisk.write.Goals as goal

pub invariant_of-self-2-clause-whole : goal.invariant_of-self-2-clause-whole
invariant_of-self-2-clause-whole c =
    let before = c.is_failing.new.self in
    let long : length c.put_block.new.bytes ≡ before.bytes.len = search rules in
    let bytes : (with_items before.bytes c.put_block.new.bytes).items ≡ with_block before.bytes.items c.args.at c.args.from.now = items-with_block before.bytes _ _ c.args.from.now c.args.at long c.put_block.ensures c.deref_mut.ensures.value in
    ap length bytes ∙ length-with_block before.bytes.items c.args.from.now c.args.at (omega arith) c.requires.whole ∙ before.whole

pub invariant_of-self-2-clause-bytes_fit : goal.invariant_of-self-2-clause-bytes_fit
invariant_of-self-2-clause-bytes_fit c =
    let before = c.is_failing.new.self in
    let long : length c.put_block.new.bytes ≡ before.bytes.len = search rules in
    let bytes : (with_items before.bytes c.put_block.new.bytes).items ≡ with_block before.bytes.items c.args.at c.args.from.now = items-with_block before.bytes _ _ c.args.from.now c.args.at long c.put_block.ensures c.deref_mut.ensures.value in
    All-same (λ b. b < 256) _ _ bytes (All-with_block (λ b. b < 256) before.bytes.items c.args.from.now c.args.at before.bytes_fit (bytes_fit c.args.from.now c.type_inv.from))

pub returns-clause-written : goal.returns-clause-written
returns-clause-written c =
    let before = c.is_failing.new.self in
    let long : length c.put_block.new.bytes ≡ before.bytes.len = search rules in
    let bytes : (with_items before.bytes c.put_block.new.bytes).items ≡ with_block before.bytes.items c.args.at c.args.from.now = items-with_block before.bytes _ _ c.args.from.now c.args.at long c.put_block.ensures c.deref_mut.ensures.value in
    image-with_block before.blocks c.args.at before.bytes.items _ c.args.from.now _ (omega arith) before.whole c.requires.whole bytes c.is_failing.ensures.disk.image

-- src/memory_disk.rt:180:61
pub returns-then-is_failing-clause-old : goal.returns-then-is_failing-clause-old
returns-then-is_failing-clause-old c = search rules

use Rattle.std.proofs.Common.{◌≡◌, ◌*◌, ◌%◌, ◌^◌, ◌<◌, ap, ◌∙◌, arith}
use Rattle.xfs_geom.specs.Volumes.{volume_of}
use Rattle.xfs_salvage.specs.xfs_laws.Counting.{bits_below, count_below}
use Rattle.xfs_salvage.proofs.xfs_laws.Bits.{count_small, bits_small, shifted_small, room, count_more, bits_more}
use Rattle.xfs_request.specs.Chunks.{is_idle}
use Rattle.xfs_request.proofs.Counted.{counted}
use Rattle.xfs_request.proofs.chunks.counted_chunk.Goals as goal

pub overflow_add-freecount : goal.overflow_add-freecount
overflow_add-freecount c =
    let few = count_small (is_idle (volume_of c.args.g.now) c.args.kept.now c.args.ag c.args.startino c.args.holemask) c.loop-inode.inode in
    omega (arith, few, c.loop-inode.invariant.counted, c.bit_of-bit.ensures.most, c.loop-inode-test.true)

pub overflow_add-free : goal.overflow_add-free
overflow_add-free c =
    let low = bits_small (is_idle (volume_of c.args.g.now) c.args.kept.now c.args.ag c.args.startino c.args.holemask) c.loop-inode.inode in
    let part = shifted_small c.bit_of-bit.result c.loop-inode.inode c.bit_of-bit.ensures.most c.loop-inode-test.true in
    let less : c.loop-inode.free < 2 ^ c.loop-inode.inode = omega (arith, low, c.loop-inode.invariant.marked) in
    omega (arith, room c.loop-inode.free (c.bit_of-bit.result * 2 ^ c.loop-inode.inode % 2 ^ 64) c.loop-inode.inode less part c.loop-inode-test.true)

pub loop-inode-preserved : goal.loop-inode-preserved
loop-inode-preserved c =
    let test = is_idle (volume_of c.args.g.now) c.args.kept.now c.args.ag c.args.startino c.args.holemask in
    record {
      counted = count_more test c.loop-inode.inode c.is_idle.result c.is_idle.ensures c.bit_of-bit.ensures.value c.loop-inode.invariant.counted;
      marked = bits_more test c.loop-inode.inode c.is_idle.result c.is_idle.ensures c.bit_of-bit.ensures.value c.bit_of-bit.ensures.most c.loop-inode-test.true c.loop-inode.invariant.marked;
    }

pub returns : goal.returns
returns c =
    let test = is_idle (volume_of c.args.g.now) c.args.kept.now c.args.ag c.args.startino c.args.holemask in
    let end : c.loop-inode.inode ≡ 64 = omega (arith, c.loop-inode-test.false, c.loop-inode.auto.inode-end) in
    counted (volume_of c.args.g.now) c.args.kept.now c.args.ag c.args.startino c.args.holemask c.slot_count.result c.loop-inode.freecount c.loop-inode.free
    c.slot_count.ensures (c.loop-inode.invariant.counted ∙ ap (count_below test) end) (c.loop-inode.invariant.marked ∙ ap (bits_below test) end)

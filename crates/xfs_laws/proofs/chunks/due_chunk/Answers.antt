use Rattle.std.proofs.Common.{◌≡◌, ◌==◌, if◌then◌else◌, ◌*◌, ◌%◌, ◌^◌, ◌<◌, arith, le_antisymm, eq-eqb, ne_eqb, refl, sym, ◌∙◌}
use Rattle.std.proofs.lemmas.Bool.{cond-true, cond-false}
use Rattle.xfs_geom.specs.Volumes.{volume_of}
use Rattle.xfs_laws.specs.Counting.{is_unused}
use Rattle.xfs_laws.proofs.Bits.{count_small, bits_small, shifted_small, room, count_more, bits_more}
use Rattle.xfs_laws.proofs.Due.{due_is}
use Rattle.xfs_laws.proofs.chunks.due_chunk.Goals.{then-chunk-eq0, else-chunk-eq0}
use Rattle.xfs_laws.proofs.chunks.due_chunk.Goals as goal

pub overflow_add-freecount : goal.overflow_add-freecount
overflow_add-freecount c =
    let few = count_small (is_unused (volume_of c.args.g.now) c.args.files.now c.args.ag c.args.chunk.now) c.loop-inode.inode in
    omega (arith, few, c.loop-inode.invariant.counted, c.bit_of-bit.ensures.most, c.loop-inode-test.true)

pub overflow_add-free : goal.overflow_add-free
overflow_add-free c =
    let low = bits_small (is_unused (volume_of c.args.g.now) c.args.files.now c.args.ag c.args.chunk.now) c.loop-inode.inode in
    let part = shifted_small c.bit_of-bit.result c.loop-inode.inode c.bit_of-bit.ensures.most c.loop-inode-test.true in
    let less : c.loop-inode.free < 2 ^ c.loop-inode.inode = omega (arith, low, c.loop-inode.invariant.marked) in
    omega (arith, room c.loop-inode.free (c.bit_of-bit.result * 2 ^ c.loop-inode.inode % 2 ^ 64) c.loop-inode.inode less part c.loop-inode-test.true)

pub loop-inode-preserved : goal.loop-inode-preserved
loop-inode-preserved c =
    let test = is_unused (volume_of c.args.g.now) c.args.files.now c.args.ag c.args.chunk.now in
    record {
      counted = count_more test c.loop-inode.inode c.is_unused.result c.is_unused.ensures c.bit_of-bit.ensures.value c.loop-inode.invariant.counted;
      marked = bits_more test c.loop-inode.inode c.is_unused.result c.is_unused.ensures c.bit_of-bit.ensures.value c.bit_of-bit.ensures.most c.loop-inode-test.true c.loop-inode.invariant.marked;
    }

pub is_unused-requires-clause-group : goal.is_unused-requires-clause-group
is_unused-requires-clause-group c = c.requires.group

pub is_unused-requires-clause-files : goal.is_unused-requires-clause-files
is_unused-requires-clause-files c = c.requires.files

pub is_unused-requires-clause-inode : goal.is_unused-requires-clause-inode
is_unused-requires-clause-inode c = c.loop-inode-test.true

pub loop-inode-init : goal.loop-inode-init
loop-inode-init c = record { counted = refl; marked = refl }

pub returns-clause-value : goal.returns-clause-value
returns-clause-value c =
    let chunk = c.args.chunk.now in
    let count : c.if-chunk-eq0.result ≡ (if chunk.holemask == 0 then 64 else 32) =
    elim c.if-chunk-eq0.branch [
      | then-chunk-eq0 w ↦ w.result-is ∙ sym (cond-true (chunk.holemask == 0) 64 32 (eq-eqb chunk.holemask 0 w.if-chunk-eq0.true))
      | else-chunk-eq0 w ↦ w.result-is ∙ sym (cond-false (chunk.holemask == 0) 64 32 (ne_eqb chunk.holemask 0 w.if-chunk-eq0.false))
    ] in
    due_is (volume_of c.args.g.now) c.args.files.now c.args.ag chunk count c.loop-inode.invariant.counted c.loop-inode.invariant.marked
    (le_antisymm c.loop-inode.auto.inode-end c.loop-inode-test.false)

pub returns-clause-mask : goal.returns-clause-mask
returns-clause-mask c = refl

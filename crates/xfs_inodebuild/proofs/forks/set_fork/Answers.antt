use Rattle.std.proofs.Common.{◌+◌, ◌*◌, ◌≤◌, inr, refl, ◌∙◌, arith}
use Rattle.xfs_word.specs.Crc.{little_field_of}
use Rattle.xfs_word.specs.Field.{field_of}
use Rattle.xfs_geom.specs.Volumes.{volume_of}
use Rattle.xfs_inode.specs.Cores.{stated_core}
use Rattle.xfs_inode.specs.Slots.{unsupported, fork_bytes}
use Rattle.xfs_inodebuild.proofs.ReadBack.{with_checksum}
use Rattle.xfs_inodebuild.proofs.Ready.{ready_again, was_ready}
use Rattle.xfs_inodebuild.proofs.Reread.{in_use_again, same_extent, fork_ends}
use Rattle.xfs_inodebuild.proofs.forks.set_fork.Goals as goal

pub seal_slot-requires-clause-ready : goal.seal_slot-requires-clause-ready
seal_slot-requires-clause-ready c =
    let v = volume_of c.args.g.now in
    ready_again v c.args.ino c.args.slot.now c.put_fork.new.slot _ c.put_fork.ensures.stated refl refl refl refl refl
    (was_ready v c.args.ino c.args.slot.now c.requires.was_sealed)

pub returns-clause-read : goal.returns-clause-read
unfolding unsupported
returns-clause-read c =
    λ core was.
    let before = stated_core c.args.slot.now in
    let at = 176 + 8 * field_of c.args.slot.now 82 1 + 12 in
    let format : 5 + 1 ≤ 176 + 8 * field_of c.args.slot.now 82 1 + 12 = omega arith in
    let size : 56 + 8 ≤ 176 + 8 * field_of c.args.slot.now 82 1 + 12 = omega arith in
    let nblocks : 64 + 8 ≤ 176 + 8 * field_of c.args.slot.now 82 1 + 12 = omega arith in
    let nextents : 76 + 4 ≤ 176 + 8 * field_of c.args.slot.now 82 1 + 12 = omega arith in
    let crc : 100 + 4 ≤ 176 + 8 * field_of c.args.slot.now 82 1 + 12 = omega arith in
    let stated = c.seal_slot.ensures.stated ∙ with_checksum (little_field_of c.seal_slot.new.slot 100 4) c.put_fork.ensures.stated in
    in_use_again (volume_of c.args.g.now) c.args.ino c.args.slot.now c.seal_slot.new.slot _ core stated c.seal_slot.ensures.sealed refl
    (λ none.
    same_extent before c.args.slot.now c.seal_slot.new.slot
    (λ h.
    let ends : 176 + fork_bytes (field_of c.args.slot.now 82 1) ≤ 176 + 8 * field_of c.args.slot.now 82 1 + 12 =
    fork_ends (field_of c.args.slot.now 82 1) h in
    c.seal_slot.ensures.keeps at 4 (inr crc)
    ∙ (c.put_fork.ensures.others at 4 (inr format, (inr size, (inr nblocks, (inr nextents, (inr ends, tt)))))).0)
    ∙ none) was

use Rattle.std.proofs.Common.{◌+◌, ◌*◌, ◌≤◌, inr, refl, ◌∙◌, arith}
use Rattle.xfs_word.specs.Crc.{little_field_of}
use Rattle.xfs_word.specs.Field.{field_of}
use Rattle.xfs_geom.specs.Volumes.{volume_of}
use Rattle.xfs_inode.specs.Cores.{stated_core}
use Rattle.xfs_inode.specs.Slots.{unsupported}
use Rattle.xfs_inodebuild.proofs.ReadBack.{with_checksum}
use Rattle.xfs_inodebuild.proofs.Ready.{ready_again, was_ready}
use Rattle.xfs_inodebuild.proofs.Reread.{in_use_again, same_extent}
use Rattle.xfs_inodebuild.proofs.changes.set_links.Goals as goal

pub seal_slot-requires-clause-ready : goal.seal_slot-requires-clause-ready
seal_slot-requires-clause-ready c =
    let v = volume_of c.args.g.now in
    ready_again v c.args.ino c.args.slot.now c.put_links.new.slot _ c.put_links.ensures.stated refl refl refl refl refl
    (was_ready v c.args.ino c.args.slot.now c.requires.was_sealed)

pub returns-clause-read : goal.returns-clause-read
unfolding unsupported
returns-clause-read c =
    λ core was.
    let before = stated_core c.args.slot.now in
    let at = 176 + 8 * field_of c.args.slot.now 82 1 + 12 in
    let nlink : 16 + 4 ≤ 176 + 8 * field_of c.args.slot.now 82 1 + 12 = omega arith in
    let next : 96 + 4 ≤ 176 + 8 * field_of c.args.slot.now 82 1 + 12 = omega arith in
    let crc : 100 + 4 ≤ 176 + 8 * field_of c.args.slot.now 82 1 + 12 = omega arith in
    let same = c.seal_slot.ensures.keeps at 4 (inr crc) ∙ (c.put_links.ensures.others at 4 (inr nlink, (inr next, tt))).0 in
    let stated = c.seal_slot.ensures.stated ∙ with_checksum (little_field_of c.seal_slot.new.slot 100 4) c.put_links.ensures.stated in
    in_use_again (volume_of c.args.g.now) c.args.ino c.args.slot.now c.seal_slot.new.slot _ core stated c.seal_slot.ensures.sealed refl
    (λ none. same_extent before c.args.slot.now c.seal_slot.new.slot (λ h. same) ∙ none) was

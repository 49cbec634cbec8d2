use Rattle.std.proofs.Common.{refl, ◌∙◌}
use Rattle.xfs_word.specs.Crc.{little_field_of}
use Rattle.xfs_geom.specs.Volumes.{volume_of}
use Rattle.xfs_inode.specs.Cores.{stated_core}
use Rattle.xfs_inodebuild.proofs.ReadBack.{with_checksum}
use Rattle.xfs_inodebuild.proofs.Ready.{ready_again, was_ready}
use Rattle.xfs_inodebuild.proofs.Reread.{in_use_again, no_extents}
use Rattle.xfs_inodebuild.proofs.changes.drop_attrs.Goals as goal

pub seal_slot-requires-clause-ready : goal.seal_slot-requires-clause-ready
seal_slot-requires-clause-ready c =
    let v = volume_of c.args.g.now in
    ready_again v c.args.ino c.args.slot.now c.put_no_attrs.new.slot _ c.put_no_attrs.ensures.stated refl refl refl refl refl
    (was_ready v c.args.ino c.args.slot.now c.requires.was_sealed)

pub returns-clause-read : goal.returns-clause-read
returns-clause-read c =
    λ core was.
    let crc = little_field_of c.seal_slot.new.slot 100 4 in
    let stated = c.seal_slot.ensures.stated ∙ with_checksum crc c.put_no_attrs.ensures.stated in
    in_use_again (volume_of c.args.g.now) c.args.ino c.args.slot.now c.seal_slot.new.slot _ core stated c.seal_slot.ensures.sealed refl
    (no_extents (stated_core c.args.slot.now) c.args.slot.now c.seal_slot.new.slot c.args.nblocks crc) was

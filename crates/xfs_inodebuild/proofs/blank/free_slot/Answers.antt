use Rattle.std.proofs.Common.{◌≡◌, ap, subst, IsTrue}
use Rattle.xfs_geom.specs.Volumes.{volume_of}
use Rattle.xfs_inode.specs.Cores.{stated_core}
use Rattle.xfs_inode.specs.Slots.{slot_read, slot_seal}
use Rattle.xfs_inode.specs.declared.reading.SlotRead.TheVariants as Read
use Rattle.xfs_volume.specs.declared.cores.Core.{Core}
use Rattle.xfs_word.specs.Crc.{little_field_of}
use Rattle.xfs_word.specs.Seal.{is_lsn, is_sealed}
use Rattle.xfs_inodebuild.proofs.blank.free_slot.Goals as goal

pub empty_slot-requires-clause-magic : goal.empty_slot-requires-clause-magic
empty_slot-requires-clause-magic c = ap (λ (a : Core). a.magic) c.free_core.ensures

pub empty_slot-requires-clause-version : goal.empty_slot-requires-clause-version
empty_slot-requires-clause-version c = ap (λ (a : Core). a.version) c.free_core.ensures

pub empty_slot-requires-clause-free : goal.empty_slot-requires-clause-free
empty_slot-requires-clause-free c = ap (λ (a : Core). a.mode) c.free_core.ensures

pub empty_slot-requires-clause-uuid : goal.empty_slot-requires-clause-uuid
empty_slot-requires-clause-uuid c = ap (λ (a : Core). a.uuid) c.free_core.ensures

pub empty_slot-requires-clause-lsn : goal.empty_slot-requires-clause-lsn
empty_slot-requires-clause-lsn c = ap (λ (a : Core). is_lsn a.lsn) c.free_core.ensures

pub returns-clause-read : goal.returns-clause-read
returns-clause-read c =
    subst (λ (a : Core). slot_read (volume_of c.args.g.now) a.ino c.empty_slot.new.slot ≡ Read.Free) c.free_core.ensures c.empty_slot.ensures.read

pub returns-clause-sealed : goal.returns-clause-sealed
returns-clause-sealed c =
    subst (λ (a : Core). IsTrue (is_sealed (slot_seal (volume_of c.args.g.now) a.ino) c.empty_slot.new.slot)) c.free_core.ensures c.empty_slot.ensures.sealed

pub returns-clause-stated : goal.returns-clause-stated
returns-clause-stated c =
    subst (λ (a : Core). let r : Core = record a { crc = little_field_of c.empty_slot.new.slot 100 4 } in stated_core c.empty_slot.new.slot ≡ r) c.free_core.ensures
    c.empty_slot.ensures.stated

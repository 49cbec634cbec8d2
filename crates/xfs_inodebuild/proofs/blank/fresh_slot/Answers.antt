use Rattle.std.proofs.Common.{ap, ◌∙◌}
use Rattle.xfs_geom.specs.Volumes.{volume_of}
use Rattle.xfs_volume.specs.declared.cores.Core.{Core}
use Rattle.xfs_word.specs.Crc.{little_field_of}
use Rattle.xfs_word.specs.Seal.{is_lsn}
use Rattle.xfs_inodebuild.proofs.Ready.{ready_slot}
use Rattle.xfs_inodebuild.proofs.ReadBack.{read_used, supported_core, with_checksum}
use Rattle.xfs_inodebuild.proofs.blank.fresh_slot.Goals as goal

pub seal_slot-requires-clause-ready : goal.seal_slot-requires-clause-ready
seal_slot-requires-clause-ready c =
    let stated = c.put_fresh.ensures.stated in
    ready_slot (volume_of c.args.g.now) c.args.core.now.ino c.put_fresh.new.slot
    (ap (λ (a : Core). a.magic) stated ∙ c.requires.magic)
    (ap (λ (a : Core). a.version) stated ∙ c.requires.version)
    (ap (λ (a : Core). a.uuid) stated ∙ c.requires.uuid)
    (ap (λ (a : Core). a.ino) stated)
    (ap (λ (a : Core). is_lsn a.lsn) stated ∙ c.requires.lsn)

pub returns-clause-read : goal.returns-clause-read
returns-clause-read c =
    let crc = little_field_of c.seal_slot.new.slot 100 4 in
    let core : Core = record c.args.core.now { crc = crc } in
    read_used (volume_of c.args.g.now) c.args.core.now.ino c.seal_slot.new.slot core c.seal_slot.ensures.sealed
    (c.seal_slot.ensures.stated ∙ with_checksum crc c.put_fresh.ensures.stated)
    c.requires.used
    (supported_core core c.seal_slot.new.slot c.requires.data c.requires.plain c.requires.no_attributes)

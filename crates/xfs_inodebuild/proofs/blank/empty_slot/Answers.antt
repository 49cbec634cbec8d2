use Rattle.std.proofs.Common.{ap, ◌∙◌}
use Rattle.xfs_geom.specs.Volumes.{volume_of}
use Rattle.xfs_volume.specs.declared.cores.Core.{Core}
use Rattle.xfs_word.specs.Seal.{is_lsn}
use Rattle.xfs_inodebuild.proofs.Ready.{ready_slot}
use Rattle.xfs_inodebuild.proofs.ReadBack.{read_free}
use Rattle.xfs_inodebuild.proofs.blank.empty_slot.Goals as goal

pub seal_slot-requires-clause-ready : goal.seal_slot-requires-clause-ready
seal_slot-requires-clause-ready c =
    let stated = c.put_core.ensures.stated in
    ready_slot (volume_of c.args.g.now) c.args.core.now.ino c.put_core.new.slot
    (ap (λ (a : Core). a.magic) stated ∙ c.requires.magic)
    (ap (λ (a : Core). a.version) stated ∙ c.requires.version)
    (ap (λ (a : Core). a.uuid) stated ∙ c.requires.uuid)
    (ap (λ (a : Core). a.ino) stated)
    (ap (λ (a : Core). is_lsn a.lsn) stated ∙ c.requires.lsn)

pub returns-clause-read : goal.returns-clause-read
returns-clause-read c =
    read_free (volume_of c.args.g.now) c.args.core.now.ino c.seal_slot.new.slot c.seal_slot.ensures.sealed
    (ap (λ (a : Core). a.mode) c.seal_slot.ensures.stated ∙ (ap (λ (a : Core). a.mode) c.put_core.ensures.stated ∙ c.requires.free))

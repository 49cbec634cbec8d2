use Rattle.std.proofs.Common.{◌∙◌, ap}
use Rattle.xfs_geom.specs.Volumes.{volume_of}
use Rattle.xfs_heads.specs.declared.inodes.Agi.{Agi}
use Rattle.xfs_heads.proofs.Ready.{ready_agi}
use Rattle.xfs_heads.proofs.ReadBack.{read_back_agi}
use Rattle.xfs_word.specs.Seal.{is_lsn}
use Rattle.xfs_heads.proofs.inodes.put_agi.Goals as goal

pub seal_agi-requires-clause-ready : goal.seal_agi-requires-clause-ready
seal_agi-requires-clause-ready c =
    let stated = c.put_values.ensures.stated in
    ready_agi (volume_of c.args.g.now) c.args.ag c.put_values.new.sector
    (ap (λ (a : Agi). a.magicnum) stated ∙ c.requires.magic)
    (ap (λ (a : Agi). a.uuid) stated ∙ c.requires.uuid)
    (ap (λ (a : Agi). a.seqno) stated ∙ c.requires.seqno)
    (ap (λ (a : Agi). is_lsn a.lsn) stated ∙ c.requires.lsn)

pub returns-clause-read : goal.returns-clause-read
returns-clause-read c =
    read_back_agi (volume_of c.args.g.now) c.args.ag c.args.agi.now c.put_values.new.sector c.seal_agi.new.sector
    c.put_values.ensures.stated c.seal_agi.ensures.stated c.seal_agi.ensures.sealed c.requires.shape

use Rattle.std.proofs.Common.{◌∙◌, ap}
use Rattle.xfs_geom.specs.Volumes.{volume_of}
use Rattle.xfs_heads.specs.declared.free_space.Agf.{Agf}
use Rattle.xfs_heads.proofs.Ready.{ready_agf}
use Rattle.xfs_heads.proofs.ReadBack.{read_back_agf}
use Rattle.xfs_word.specs.Seal.{is_lsn}
use Rattle.xfs_heads.proofs.free_space.put_agf.Goals as goal

pub seal_agf-requires-clause-ready : goal.seal_agf-requires-clause-ready
seal_agf-requires-clause-ready c =
    let stated = c.put_values.ensures.stated in
    ready_agf (volume_of c.args.g.now) c.args.ag c.put_values.new.sector
    (ap (λ (a : Agf). a.magicnum) stated ∙ c.requires.magic)
    (ap (λ (a : Agf). a.uuid) stated ∙ c.requires.uuid)
    (ap (λ (a : Agf). a.seqno) stated ∙ c.requires.seqno)
    (ap (λ (a : Agf). is_lsn a.lsn) stated ∙ c.requires.lsn)

pub returns-clause-read : goal.returns-clause-read
returns-clause-read c =
    read_back_agf (volume_of c.args.g.now) c.args.ag c.args.agf.now c.put_values.new.sector c.seal_agf.new.sector
    c.put_values.ensures.stated c.seal_agf.ensures.stated c.seal_agf.ensures.sealed c.requires.shape

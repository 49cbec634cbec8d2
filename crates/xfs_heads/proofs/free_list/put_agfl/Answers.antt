use Rattle.std.proofs.Common.{◌≡◌, ◌∙◌, rules, length}
use Rattle.xfs_geom.specs.Volumes.{volume_of}
use Rattle.xfs_heads.proofs.Ready.{ready_agfl}
use Rattle.xfs_heads.proofs.Listed.{read_back_agfl}
use Rattle.xfs_heads.proofs.free_list.put_agfl.Goals as goal

pub seal_agfl-requires-clause-ready : goal.seal_agfl-requires-clause-ready
seal_agfl-requires-clause-ready c =
    ready_agfl (volume_of c.args.g.now) c.args.ag c.put_entries.new.sector (search rules) (search rules) (search rules) (search rules)

pub returns-clause-read : goal.returns-clause-read
returns-clause-read c =
    let long : length c.args.agfl.now.entries ≡ 119 = search rules in
    λ agf first count bounds.
    read_back_agfl (volume_of c.args.g.now) c.args.ag agf c.args.agfl.now c.seal_agfl.new.sector long c.requires.count c.requires.blocks
    c.requires.unused c.seal_agfl.ensures.sealed (c.seal_agfl.ensures.entries ∙ c.put_entries.ensures.put) first count bounds

use Rattle.std.proofs.Common.{◌∙◌}
use Rattle.xfs_geom.specs.Volumes.{volume_of}
use Rattle.xfs_groups.proofs.Lawful.{owners_apart}
use Rattle.xfs_groups.proofs.Wholes.{group_is, told_so}
use Rattle.xfs_groups.proofs.one_group.group_told.Goals as goal

pub returns : goal.returns
returns c = λ image so.
    let v = volume_of c.args.g.now in
    let heads = c.args.heads.now in
    let trees = c.args.trees in
    let apart = owners_apart v image c.args.ag heads.agf trees.rmap so.rmap in
    record {
      record_is = c.in_ok-record.ensures ∙ group_is v image c.args.ag heads trees so;
      told_is = told_so v image c.args.ag heads trees _ so (c.in_ok-told.ensures apart);
    }

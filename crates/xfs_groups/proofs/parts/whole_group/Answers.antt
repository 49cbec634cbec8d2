use Rattle.std.proofs.Common.{Ok, ap, ◌∙◌}
use Rattle.xfs_groups.proofs.Lacking.{all_there, are_there}
use Rattle.xfs_groups.proofs.parts.whole_group.Goals as goal

pub unwrap-agf-requires : goal.unwrap-agf-requires
unwrap-agf-requires c = (are_there c.args.heads.now c.args.trees c.requires).agf

pub unwrap-agi-requires : goal.unwrap-agi-requires
unwrap-agi-requires c = (are_there c.args.heads.now c.args.trees c.requires).agi

pub unwrap-agfl-requires : goal.unwrap-agfl-requires
unwrap-agfl-requires c = (are_there c.args.heads.now c.args.trees c.requires).agfl

pub unwrap-bno-requires : goal.unwrap-bno-requires
unwrap-bno-requires c = (are_there c.args.heads.now c.args.trees c.requires).bno

pub unwrap-cnt-requires : goal.unwrap-cnt-requires
unwrap-cnt-requires c = (are_there c.args.heads.now c.args.trees c.requires).cnt

pub unwrap-ino-requires : goal.unwrap-ino-requires
unwrap-ino-requires c = (are_there c.args.heads.now c.args.trees c.requires).ino

pub unwrap-fino-requires : goal.unwrap-fino-requires
unwrap-fino-requires c = (are_there c.args.heads.now c.args.trees c.requires).fino

pub unwrap-rmap-requires : goal.unwrap-rmap-requires
unwrap-rmap-requires c = (are_there c.args.heads.now c.args.trees c.requires).rmap

pub returns-in-Ok : goal.returns-in-Ok
returns-in-Ok c = λ ag.
    ap Ok c.in-Ok.ensures
    ∙ all_there ag c.args.heads.now c.args.trees c.unwrap-agf.result c.unwrap-agi.result c.unwrap-agfl.result c.unwrap-bno.result c.unwrap-cnt.result c.unwrap-ino.result c.unwrap-fino.result c.unwrap-rmap.result
    c.unwrap-agf.ensures c.unwrap-agi.ensures c.unwrap-agfl.ensures c.unwrap-bno.ensures c.unwrap-cnt.ensures c.unwrap-ino.ensures c.unwrap-fino.ensures c.unwrap-rmap.ensures

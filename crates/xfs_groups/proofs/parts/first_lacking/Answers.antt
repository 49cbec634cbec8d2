use Rattle.std.proofs.Common.{ap, ◌∙◌}
use Rattle.xfs_groups.specs.Private.Parts.{unless_there}
use Rattle.xfs_groups.proofs.parts.first_lacking.Goals as goal

pub returns : goal.returns
returns c =
    let heads = c.args.heads.now in
    let trees = c.args.trees.now in
    c.unless_there.ensures
    ∙ ap (unless_there heads.agf 1) (c.unless_there-agi.ensures
    ∙ ap (unless_there heads.agi 2) (c.unless_there-agfl.ensures
    ∙ ap (unless_there heads.agfl 3) (c.unless_there-bno.ensures
    ∙ ap (unless_there trees.bno 4) (c.unless_there-cnt.ensures
    ∙ ap (unless_there trees.cnt 5) (c.unless_there-ino.ensures
    ∙ ap (unless_there trees.ino 6) (c.unless_there-fino.ensures
    ∙ ap (unless_there trees.fino 7) c.unless_there-rmap.ensures))))))

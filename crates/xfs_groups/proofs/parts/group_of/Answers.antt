use Rattle.std.proofs.Common.{◌≡◌, [], ◌∷◌, ◌∙◌}
use Rattle.xfs_image.specs.Groups.{blocks_in_tree}
use Rattle.xfs_groups.proofs.Five.{five_same}
use Rattle.xfs_groups.proofs.parts.group_of.Goals as goal

pub returns : goal.returns
returns c =
    let blocks : c.from_vec.result
    ≡ blocks_in_tree c.args.bno ∷ blocks_in_tree c.args.cnt ∷ blocks_in_tree c.args.ino ∷ blocks_in_tree c.args.fino ∷ blocks_in_tree c.args.rmap ∷ [] =
    c.from_vec.ensures
    ∙ (c.in_ok-blocks.ensures.items
    ∙ five_same c.into_parts-bno.ensures.blocks c.into_parts-cnt.ensures.blocks c.into_parts-ino.ensures.blocks c.into_parts-fino.ensures.blocks c.into_parts-rmap.ensures.blocks) in
    λ i. record {
      agf = c.args.agf.now;
      agi = c.args.agi.now;
      agfl = c.args.agfl.now;
      bno = c.into_parts-bno.ensures.records i;
      cnt = c.into_parts-cnt.ensures.records i;
      ino = c.into_parts-ino.ensures.records i;
      fino = c.into_parts-fino.ensures.records i;
      rmap = c.into_parts-rmap.ensures.records i;
      blocks = blocks i;
    }

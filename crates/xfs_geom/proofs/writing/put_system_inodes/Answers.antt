use Rattle.std.proofs.Common.{lit≤, refl, ◌∙◌, inl}
use Rattle.xfs_word.specs.Field.{field_of, part_of}
use Rattle.xfs_geom.proofs.Chained.{next}
use Rattle.xfs_geom.proofs.writing.put_system_inodes.Goals as goal

pub returns : goal.returns
returns c =
    let b0 = c.args.sector.now in
    let b1 = c.put64.new.bytes in
    let b2 = c.put64-2.new.bytes in
    record {
      rbmino = c.put64-2.ensures.keeps 64 8 (inl (lit≤ tt)) ∙ c.put64.ensures.put;
      rsumino = c.put64-2.ensures.put;
      keeps = next field_of b0 b1 b2 64 8 72 8 refl c.put64.ensures.keeps c.put64-2.ensures.keeps;
      keeps_parts = next part_of b0 b1 b2 64 8 72 8 refl c.put64.ensures.keeps_parts c.put64-2.ensures.keeps_parts;
    }

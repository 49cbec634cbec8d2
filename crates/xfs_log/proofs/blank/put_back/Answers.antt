use Rattle.std.proofs.Common.{◌≡◌, length, inl, refl, lit≤, ◌∙◌, rules}
use Rattle.xfs_word.specs.Field.{field_of, part_of}
use Rattle.xfs_heads.proofs.Chained.{next}
use Rattle.xfs_log.proofs.blank.put_back.Goals as goal

pub returns : goal.returns
returns c =
    let long : length c.args.uuid.now ≡ 16 = search rules in
    let b1 = c.put32.new.bytes in
    let b2 = c.put_part.new.bytes in
    let b3 = c.put32-2.new.bytes in
    let keeps1 = next field_of b1 b2 b3 304 16 320 4 refl (rw long at c.put_part.ensures.keeps) c.put32-2.ensures.keeps in
    let parts1 = next part_of b1 b2 b3 304 16 320 4 refl (rw long at c.put_part.ensures.keeps_parts) c.put32-2.ensures.keeps_parts in
    record {
      fmt = keeps1 300 4 (inl (lit≤ tt)) ∙ c.put32.ensures.put;
      fs_uuid = c.put32-2.ensures.keeps_parts 304 16 (inl (lit≤ tt)) ∙ rw long at c.put_part.ensures.put;
      size = c.put32-2.ensures.put;
      keeps = next field_of c.args.sector.now b1 b3 300 4 304 20 refl c.put32.ensures.keeps keeps1;
      keeps_parts = next part_of c.args.sector.now b1 b3 300 4 304 20 refl c.put32.ensures.keeps_parts parts1;
    }

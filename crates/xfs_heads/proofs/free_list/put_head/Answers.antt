use Rattle.std.proofs.Common.{◌≡◌, length, inl, refl, lit≤, ◌∙◌, rules}
use Rattle.xfs_word.specs.Field.{field_of}
use Rattle.xfs_heads.proofs.Chained.{next}
use Rattle.xfs_heads.proofs.free_list.put_head.Goals as goal

pub returns : goal.returns
returns c =
    let long : length c.args.g.now.uuid ≡ 16 = search rules in
    let kept = rw long at c.put_part.ensures.keeps in
    let put = rw long at c.put_part.ensures.put in
    let b4 = c.put64.new.bytes in
    let keeps2 = next field_of c.put32-2.new.bytes c.put_part.new.bytes b4 8 16 24 8 refl kept c.put64.ensures.keeps in
    let keeps1 = next field_of c.put32.new.bytes c.put32-2.new.bytes b4 4 4 8 24 refl c.put32-2.ensures.keeps keeps2 in
    record {
      magicnum = keeps1 0 4 (inl (lit≤ tt)) ∙ c.put32.ensures.put;
      seqno = keeps2 4 4 (inl (lit≤ tt)) ∙ c.put32-2.ensures.put;
      uuid = c.put64.ensures.keeps_parts 8 16 (inl (lit≤ tt)) ∙ put;
      lsn = c.put64.ensures.put;
    }

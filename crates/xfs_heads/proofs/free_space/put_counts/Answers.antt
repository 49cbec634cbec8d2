use Rattle.std.proofs.Common.{inl, refl, lit≤, ◌∙◌}
use Rattle.xfs_word.specs.Field.{field_of, part_of}
use Rattle.xfs_heads.proofs.Chained.{next}
use Rattle.xfs_heads.proofs.free_space.put_counts.Goals as goal

pub returns : goal.returns
returns c =
    let b1 = c.put32.new.bytes in
    let b2 = c.put32-2.new.bytes in
    let b3 = c.put32-3.new.bytes in
    let b4 = c.put32-4.new.bytes in
    let b5 = c.put32-5.new.bytes in
    let b6 = c.put32-6.new.bytes in
    let keeps5 = c.put32-6.ensures.keeps in
    let keeps4 = next field_of b4 b5 b6 56 4 60 4 refl c.put32-5.ensures.keeps keeps5 in
    let keeps3 = next field_of b3 b4 b6 52 4 56 8 refl c.put32-4.ensures.keeps keeps4 in
    let keeps2 = next field_of b2 b3 b6 48 4 52 12 refl c.put32-3.ensures.keeps keeps3 in
    let keeps1 = next field_of b1 b2 b6 44 4 48 16 refl c.put32-2.ensures.keeps keeps2 in
    let keeps0 = next field_of c.args.sector.now b1 b6 40 4 44 20 refl c.put32.ensures.keeps keeps1 in
    let parts5 = c.put32-6.ensures.keeps_parts in
    let parts4 = next part_of b4 b5 b6 56 4 60 4 refl c.put32-5.ensures.keeps_parts parts5 in
    let parts3 = next part_of b3 b4 b6 52 4 56 8 refl c.put32-4.ensures.keeps_parts parts4 in
    let parts2 = next part_of b2 b3 b6 48 4 52 12 refl c.put32-3.ensures.keeps_parts parts3 in
    let parts1 = next part_of b1 b2 b6 44 4 48 16 refl c.put32-2.ensures.keeps_parts parts2 in
    let parts0 = next part_of c.args.sector.now b1 b6 40 4 44 20 refl c.put32.ensures.keeps_parts parts1 in
    record {
      flfirst = keeps1 40 4 (inl (lit≤ tt)) ∙ c.put32.ensures.put;
      fllast = keeps2 44 4 (inl (lit≤ tt)) ∙ c.put32-2.ensures.put;
      flcount = keeps3 48 4 (inl (lit≤ tt)) ∙ c.put32-3.ensures.put;
      freeblks = keeps4 52 4 (inl (lit≤ tt)) ∙ c.put32-4.ensures.put;
      longest = keeps5 56 4 (inl (lit≤ tt)) ∙ c.put32-5.ensures.put;
      btreeblks = c.put32-6.ensures.put;
      keeps = keeps0;
      keeps_parts = parts0;
    }

use Rattle.std.proofs.Common.{inl, lit≤, ◌∙◌}
use Rattle.xfs_word.specs.Field.{field_of, part_of}
use Rattle.xfs_inodebuild.proofs.Chained.{joined}
use Rattle.xfs_inodebuild.proofs.cores.put_counts.Goals as goal

pub returns : goal.returns
returns c =
    let b1 = c.put64.new.bytes in
    let b2 = c.put32.new.bytes in
    let b3 = c.put32-2.new.bytes in
    let b4 = c.put16.new.bytes in
    let b5 = c.put8.new.bytes in
    let b6 = c.put8-2.new.bytes in
    let keeps5 = c.put8-2.ensures.keeps in
    let keeps4 = joined field_of b4 b5 b6 82 1 83 1 2 (lit≤ tt) (lit≤ tt) (lit≤ tt) c.put8.ensures.keeps keeps5 in
    let keeps3 = joined field_of b3 b4 b6 80 2 82 2 4 (lit≤ tt) (lit≤ tt) (lit≤ tt) c.put16.ensures.keeps keeps4 in
    let keeps2 = joined field_of b2 b3 b6 76 4 80 4 8 (lit≤ tt) (lit≤ tt) (lit≤ tt) c.put32-2.ensures.keeps keeps3 in
    let keeps1 = joined field_of b1 b2 b6 72 4 76 8 12 (lit≤ tt) (lit≤ tt) (lit≤ tt) c.put32.ensures.keeps keeps2 in
    let keeps0 = joined field_of c.args.slot.now b1 b6 64 8 72 12 20 (lit≤ tt) (lit≤ tt) (lit≤ tt) c.put64.ensures.keeps keeps1 in
    let parts5 = c.put8-2.ensures.keeps_parts in
    let parts4 = joined part_of b4 b5 b6 82 1 83 1 2 (lit≤ tt) (lit≤ tt) (lit≤ tt) c.put8.ensures.keeps_parts parts5 in
    let parts3 = joined part_of b3 b4 b6 80 2 82 2 4 (lit≤ tt) (lit≤ tt) (lit≤ tt) c.put16.ensures.keeps_parts parts4 in
    let parts2 = joined part_of b2 b3 b6 76 4 80 4 8 (lit≤ tt) (lit≤ tt) (lit≤ tt) c.put32-2.ensures.keeps_parts parts3 in
    let parts1 = joined part_of b1 b2 b6 72 4 76 8 12 (lit≤ tt) (lit≤ tt) (lit≤ tt) c.put32.ensures.keeps_parts parts2 in
    let parts0 = joined part_of c.args.slot.now b1 b6 64 8 72 12 20 (lit≤ tt) (lit≤ tt) (lit≤ tt) c.put64.ensures.keeps_parts parts1 in
    record {
      nblocks = keeps1 64 8 (inl (lit≤ tt)) ∙ c.put64.ensures.put;
      extsize = keeps2 72 4 (inl (lit≤ tt)) ∙ c.put32.ensures.put;
      nextents = keeps3 76 4 (inl (lit≤ tt)) ∙ c.put32-2.ensures.put;
      anextents = keeps4 80 2 (inl (lit≤ tt)) ∙ c.put16.ensures.put;
      forkoff = keeps5 82 1 (inl (lit≤ tt)) ∙ c.put8.ensures.put;
      aformat = c.put8-2.ensures.put;
      keeps = keeps0;
      keeps_parts = parts0;
    }

use Rattle.std.proofs.Common.{inl, lit≤, ◌∙◌}
use Rattle.xfs_word.specs.Field.{field_of, part_of}
use Rattle.xfs_inodebuild.proofs.Chained.{joined}
use Rattle.xfs_inodebuild.proofs.cores.put_flags.Goals as goal

pub returns : goal.returns
returns c =
    let b1 = c.put16.new.bytes in
    let b2 = c.put32.new.bytes in
    let b3 = c.put32-2.new.bytes in
    let b4 = c.put64.new.bytes in
    let b5 = c.put64-2.new.bytes in
    let b6 = c.put64-3.new.bytes in
    let b7 = c.put32-3.new.bytes in
    let keeps6 = c.put32-3.ensures.keeps in
    let keeps5 = joined field_of b5 b6 b7 120 8 128 4 12 (lit≤ tt) (lit≤ tt) (lit≤ tt) c.put64-3.ensures.keeps keeps6 in
    let keeps4 = joined field_of b4 b5 b7 112 8 120 12 20 (lit≤ tt) (lit≤ tt) (lit≤ tt) c.put64-2.ensures.keeps keeps5 in
    let keeps3 = joined field_of b3 b4 b7 104 8 112 20 28 (lit≤ tt) (lit≤ tt) (lit≤ tt) c.put64.ensures.keeps keeps4 in
    let keeps2 = joined field_of b2 b3 b7 96 4 104 28 36 (lit≤ tt) (lit≤ tt) (lit≤ tt) c.put32-2.ensures.keeps keeps3 in
    let keeps1 = joined field_of b1 b2 b7 92 4 96 36 40 (lit≤ tt) (lit≤ tt) (lit≤ tt) c.put32.ensures.keeps keeps2 in
    let keeps0 = joined field_of c.args.slot.now b1 b7 90 2 92 40 42 (lit≤ tt) (lit≤ tt) (lit≤ tt) c.put16.ensures.keeps keeps1 in
    let parts6 = c.put32-3.ensures.keeps_parts in
    let parts5 = joined part_of b5 b6 b7 120 8 128 4 12 (lit≤ tt) (lit≤ tt) (lit≤ tt) c.put64-3.ensures.keeps_parts parts6 in
    let parts4 = joined part_of b4 b5 b7 112 8 120 12 20 (lit≤ tt) (lit≤ tt) (lit≤ tt) c.put64-2.ensures.keeps_parts parts5 in
    let parts3 = joined part_of b3 b4 b7 104 8 112 20 28 (lit≤ tt) (lit≤ tt) (lit≤ tt) c.put64.ensures.keeps_parts parts4 in
    let parts2 = joined part_of b2 b3 b7 96 4 104 28 36 (lit≤ tt) (lit≤ tt) (lit≤ tt) c.put32-2.ensures.keeps_parts parts3 in
    let parts1 = joined part_of b1 b2 b7 92 4 96 36 40 (lit≤ tt) (lit≤ tt) (lit≤ tt) c.put32.ensures.keeps_parts parts2 in
    let parts0 = joined part_of c.args.slot.now b1 b7 90 2 92 40 42 (lit≤ tt) (lit≤ tt) (lit≤ tt) c.put16.ensures.keeps_parts parts1 in
    record {
      flags = keeps1 90 2 (inl (lit≤ tt)) ∙ c.put16.ensures.put;
      generation = keeps2 92 4 (inl (lit≤ tt)) ∙ c.put32.ensures.put;
      next_unlinked = keeps3 96 4 (inl (lit≤ tt)) ∙ c.put32-2.ensures.put;
      changecount = keeps4 104 8 (inl (lit≤ tt)) ∙ c.put64.ensures.put;
      lsn = keeps5 112 8 (inl (lit≤ tt)) ∙ c.put64-2.ensures.put;
      flags2 = keeps6 120 8 (inl (lit≤ tt)) ∙ c.put64-3.ensures.put;
      cowextsize = c.put32-3.ensures.put;
      keeps = keeps0;
      keeps_parts = parts0;
    }

use Rattle.std.proofs.Common.{inl, lit≤, ◌∙◌}
use Rattle.xfs_word.specs.Field.{field_of, part_of}
use Rattle.xfs_inodebuild.proofs.Chained.{joined}
use Rattle.xfs_inodebuild.proofs.cores.put_times.Goals as goal

pub returns : goal.returns
returns c =
    let b1 = c.put64.new.bytes in
    let b2 = c.put64-2.new.bytes in
    let b3 = c.put64-3.new.bytes in
    let b4 = c.put64-4.new.bytes in
    let keeps3 = c.put64-4.ensures.keeps in
    let keeps2 = joined field_of b2 b3 b4 48 8 56 8 16 (lit≤ tt) (lit≤ tt) (lit≤ tt) c.put64-3.ensures.keeps keeps3 in
    let keeps1 = joined field_of b1 b2 b4 40 8 48 16 24 (lit≤ tt) (lit≤ tt) (lit≤ tt) c.put64-2.ensures.keeps keeps2 in
    let keeps0 = joined field_of c.args.slot.now b1 b4 32 8 40 24 32 (lit≤ tt) (lit≤ tt) (lit≤ tt) c.put64.ensures.keeps keeps1 in
    let parts3 = c.put64-4.ensures.keeps_parts in
    let parts2 = joined part_of b2 b3 b4 48 8 56 8 16 (lit≤ tt) (lit≤ tt) (lit≤ tt) c.put64-3.ensures.keeps_parts parts3 in
    let parts1 = joined part_of b1 b2 b4 40 8 48 16 24 (lit≤ tt) (lit≤ tt) (lit≤ tt) c.put64-2.ensures.keeps_parts parts2 in
    let parts0 = joined part_of c.args.slot.now b1 b4 32 8 40 24 32 (lit≤ tt) (lit≤ tt) (lit≤ tt) c.put64.ensures.keeps_parts parts1 in
    record {
      atime = keeps1 32 8 (inl (lit≤ tt)) ∙ c.put64.ensures.put;
      mtime = keeps2 40 8 (inl (lit≤ tt)) ∙ c.put64-2.ensures.put;
      ctime = keeps3 48 8 (inl (lit≤ tt)) ∙ c.put64-3.ensures.put;
      size = c.put64-4.ensures.put;
      keeps = keeps0;
      keeps_parts = parts0;
    }

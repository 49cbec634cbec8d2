use Rattle.std.proofs.Common.{inl, lit≤, ◌∙◌}
use Rattle.xfs_word.specs.Field.{field_of, part_of}
use Rattle.xfs_inodebuild.proofs.Chained.{joined}
use Rattle.xfs_inodebuild.proofs.cores.put_owner.Goals as goal

pub returns : goal.returns
returns c =
    let b1 = c.put32.new.bytes in
    let b2 = c.put32-2.new.bytes in
    let b3 = c.put32-3.new.bytes in
    let b4 = c.put16.new.bytes in
    let b5 = c.put16-2.new.bytes in
    let keeps4 = c.put16-2.ensures.keeps in
    let keeps3 = joined field_of b3 b4 b5 20 2 22 2 4 (lit≤ tt) (lit≤ tt) (lit≤ tt) c.put16.ensures.keeps keeps4 in
    let keeps2 = joined field_of b2 b3 b5 16 4 20 4 8 (lit≤ tt) (lit≤ tt) (lit≤ tt) c.put32-3.ensures.keeps keeps3 in
    let keeps1 = joined field_of b1 b2 b5 12 4 16 8 12 (lit≤ tt) (lit≤ tt) (lit≤ tt) c.put32-2.ensures.keeps keeps2 in
    let keeps0 = joined field_of c.args.slot.now b1 b5 8 4 12 12 16 (lit≤ tt) (lit≤ tt) (lit≤ tt) c.put32.ensures.keeps keeps1 in
    let parts4 = c.put16-2.ensures.keeps_parts in
    let parts3 = joined part_of b3 b4 b5 20 2 22 2 4 (lit≤ tt) (lit≤ tt) (lit≤ tt) c.put16.ensures.keeps_parts parts4 in
    let parts2 = joined part_of b2 b3 b5 16 4 20 4 8 (lit≤ tt) (lit≤ tt) (lit≤ tt) c.put32-3.ensures.keeps_parts parts3 in
    let parts1 = joined part_of b1 b2 b5 12 4 16 8 12 (lit≤ tt) (lit≤ tt) (lit≤ tt) c.put32-2.ensures.keeps_parts parts2 in
    let parts0 = joined part_of c.args.slot.now b1 b5 8 4 12 12 16 (lit≤ tt) (lit≤ tt) (lit≤ tt) c.put32.ensures.keeps_parts parts1 in
    record {
      uid = keeps1 8 4 (inl (lit≤ tt)) ∙ c.put32.ensures.put;
      gid = keeps2 12 4 (inl (lit≤ tt)) ∙ c.put32-2.ensures.put;
      nlink = keeps3 16 4 (inl (lit≤ tt)) ∙ c.put32-3.ensures.put;
      projid_lo = keeps4 20 2 (inl (lit≤ tt)) ∙ c.put16.ensures.put;
      projid_hi = c.put16-2.ensures.put;
      keeps = keeps0;
      keeps_parts = parts0;
    }

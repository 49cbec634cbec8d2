use Rattle.std.proofs.Common.{inl, lit≤, ◌∙◌}
use Rattle.xfs_word.specs.Field.{field_of, part_of}
use Rattle.xfs_inodebuild.proofs.Chained.{joined}
use Rattle.xfs_inodebuild.proofs.cores.put_kind.Goals as goal

pub returns : goal.returns
returns c =
    let b1 = c.put16.new.bytes in
    let b2 = c.put16-2.new.bytes in
    let b3 = c.put8.new.bytes in
    let b4 = c.put8-2.new.bytes in
    let keeps3 = c.put8-2.ensures.keeps in
    let keeps2 = joined field_of b2 b3 b4 4 1 5 1 2 (lit≤ tt) (lit≤ tt) (lit≤ tt) c.put8.ensures.keeps keeps3 in
    let keeps1 = joined field_of b1 b2 b4 2 2 4 2 4 (lit≤ tt) (lit≤ tt) (lit≤ tt) c.put16-2.ensures.keeps keeps2 in
    let keeps0 = joined field_of c.args.slot.now b1 b4 0 2 2 4 6 (lit≤ tt) (lit≤ tt) (lit≤ tt) c.put16.ensures.keeps keeps1 in
    let parts3 = c.put8-2.ensures.keeps_parts in
    let parts2 = joined part_of b2 b3 b4 4 1 5 1 2 (lit≤ tt) (lit≤ tt) (lit≤ tt) c.put8.ensures.keeps_parts parts3 in
    let parts1 = joined part_of b1 b2 b4 2 2 4 2 4 (lit≤ tt) (lit≤ tt) (lit≤ tt) c.put16-2.ensures.keeps_parts parts2 in
    let parts0 = joined part_of c.args.slot.now b1 b4 0 2 2 4 6 (lit≤ tt) (lit≤ tt) (lit≤ tt) c.put16.ensures.keeps_parts parts1 in
    record {
      magic = keeps1 0 2 (inl (lit≤ tt)) ∙ c.put16.ensures.put;
      mode = keeps2 2 2 (inl (lit≤ tt)) ∙ c.put16-2.ensures.put;
      version = keeps3 4 1 (inl (lit≤ tt)) ∙ c.put8.ensures.put;
      format = c.put8-2.ensures.put;
      keeps = keeps0;
      keeps_parts = parts0;
    }

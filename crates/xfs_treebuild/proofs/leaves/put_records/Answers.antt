use Rattle.std.proofs.Common.{arith}
use Rattle.xfs_tree.specs.Layout.{header_len}
use Rattle.xfs_treebuild.proofs.PackingExact.{items_on}
use Rattle.xfs_treebuild.proofs.PackingItems.{record_more}
use Rattle.xfs_treebuild.proofs.leaves.put_records.Goals as goal

pub loop-i-preserved : goal.loop-i-preserved
loop-i-preserved g c =
    let s = g.K.Kind.shape c.args.kind.now in
    record {
      put = record_more s c.args.records.now c.loop-i.block c.put_record_at.new.block c.loop-i.i c.index-records-i.result
          (omega arith) c.index-records-i.is c.put_record_at.ensures.put c.put_record_at.ensures.keeps_parts c.loop-i.invariant.put;
      keeps = items_on c.args.block.now c.loop-i.block c.put_record_at.new.block (header_len s.layout) c.loop-i.i s.layout.record_len
          c.loop-i.invariant.keeps c.put_record_at.ensures.keeps_parts;
    }

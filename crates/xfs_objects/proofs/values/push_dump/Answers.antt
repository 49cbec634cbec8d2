use Rattle.xfs_objects.specs.Values.{dump_line}
use Rattle.xfs_objects.proofs.Listing.{piece_counted}
use Rattle.xfs_objects.proofs.values.push_dump.Goals as goal

pub loop-line-preserved : goal.loop-line-preserved
loop-line-preserved c =
    piece_counted (dump_line c.args.block.now) c.args.text.now.items c.loop-line.text.items c.push_dump_line.new.text.items c.loop-line.line c.loop-line.invariant
    c.in_ok-push_dump_line.ensures

use Rattle.xfs_objects.proofs.Listing.{piece_mapped}
use Rattle.xfs_objects.specs.Items.{item_of}
use Rattle.xfs_objects.specs.Values.{item_line}
use Rattle.xfs_objects.proofs.values.push_lines.Goals as goal

pub loop-item-preserved : goal.loop-item-preserved
loop-item-preserved c =
    piece_mapped (item_line c.args.object.now) item_of c.args.text.now.items c.loop-item.text.items c.push_line.new.text.items c.args.items.now c.loop-item.item-index _ c.loop-item-test.true
    c.loop-item.invariant c.in_ok-push_line.ensures

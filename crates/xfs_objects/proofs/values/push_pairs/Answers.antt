use Rattle.xfs_objects.specs.Values.{pair}
use Rattle.xfs_objects.proofs.Listing.{piece_more}
use Rattle.xfs_objects.proofs.values.push_pairs.Goals as goal

pub loop-byte-preserved : goal.loop-byte-preserved
loop-byte-preserved c =
    piece_more pair c.args.text.now.items c.loop-byte.text.items c.push_pair.new.text.items c.args.bytes.now c.loop-byte.byte-index 0 c.loop-byte-test.true c.loop-byte.invariant
    c.in_ok-push_pair.ensures

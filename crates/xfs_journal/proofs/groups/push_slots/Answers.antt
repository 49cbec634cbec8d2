use Rattle.std.proofs.Common.{rules}
use Rattle.xfs_image.specs.Lsns.{slot_place}
use Rattle.xfs_journal.specs.Placed.{listed}
use Rattle.xfs_journal.proofs.Listing.{pushed}
use Rattle.xfs_journal.proofs.groups.push_slots.Goals as goal

pub loop-slot-preserved : goal.loop-slot-preserved
loop-slot-preserved c =
    record {
      listed = pushed (slot_place c.args.block) c.loop-slot.slot 8 (listed c.loop-slot.places.items) (listed c.push.new.places.items) _
          (search rules) c.in_ok-push.ensures.listed c.loop-slot.invariant.listed;
      inside = c.push.ensures.inside;
    }

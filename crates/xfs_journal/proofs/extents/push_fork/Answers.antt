use Rattle.std.proofs.Common.{ℕ, false, ◌≤◌, ◌<◌, length, arith}
use Rattle.xfs_word.specs.declared.extents.Extent.{Extent}
use Rattle.xfs_geom.specs.Volumes.{volume_of}
use Rattle.xfs_image.specs.Lsns.{extent_places}
use Rattle.xfs_journal.specs.Placed.{byte_of, listed}
use Rattle.xfs_journal.proofs.Listing.{held_all, held_at}
use Rattle.xfs_journal.proofs.extents.push_fork.Goals as goal

-- what stands behind the last
abbrev no_extent : Extent
no_extent = record { offset = 0; start = 0; count = 0; unwritten = false }

pub loop-extent-preserved : goal.loop-extent-preserved
loop-extent-preserved c =
    record {
      listed = held_at (extent_places (volume_of c.args.g.now) (byte_of c.args.owner)) c.args.extents.now c.loop-extent.extent-index no_extent
          (listed c.loop-extent.places.items) (listed c.push_extent.new.places.items) _ (omega arith) c.in_ok-push_extent.ensures.listed c.loop-extent.invariant.listed;
      inside = c.push_extent.ensures.inside;
    }

pub returns-clause-listed : goal.returns-clause-listed
returns-clause-listed c =
    held_all (extent_places (volume_of c.args.g.now) (byte_of c.args.owner)) c.args.extents.now c.loop-extent.extent-index (listed c.loop-extent.places.items) _
    (omega arith) c.loop-extent.invariant.listed

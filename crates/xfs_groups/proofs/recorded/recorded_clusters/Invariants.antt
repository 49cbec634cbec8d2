use Rattle.std.proofs.Common.{◌≡◌, ◌+◌, ◌*◌, ◌≤◌, true, false, drop, length}
use Rattle.std.specs.Option.{ForSome}
use Rattle.xfs_geom.specs.Volumes.{volume_of}
use Rattle.xfs_disk.specs.Reads.{OnlyReads}
use Rattle.xfs_groups.specs.Answers.{hold_no_object}
use Rattle.xfs_groups.specs.Sets.{SameFrom}
use Rattle.xfs_groups.specs.Private.Chosen.{ClustersPlaced, chosen}
use Rattle.xfs_groups.proofs.recorded.recorded_clusters.Given as goal

abbrev pub invariant-loop-i : goal.invariant-loop-i
invariant-loop-i g l = record {
  chosen_so : ForSome (g.D.Disk.holds l.fn.disk) (λ image. (l.looks ≡ false → hold_no_object (volume_of l.g) image l.clusters.items ≡ true) → l.clusters.items ≡ chosen (volume_of l.g) image true l.named l.ag l.i);
  placed : ClustersPlaced (volume_of l.g) l.ag l.i l.clusters.items;
  high : l.next ≤ length l.places.items;
  alike : SameFrom (l.start + 4 * l.i) l.places.items (drop l.next l.places.items);
  later : g.D.Disk.faults l.fn.disk ≤ g.D.Disk.faults l.disk;
  disk : OnlyReads g.D.Disk.size g.D.Disk.holds g.D.Disk.write_faults g.D.Disk.writes g.D.Disk.tells_stops g.D.Disk.moment g.D.Disk.may_leave g.D.Disk.left_since l.fn.disk l.disk;
  reads : g.D.Disk.reads l.disk + l.fn.steps ≤ g.D.Disk.reads l.fn.disk + l.steps;
}

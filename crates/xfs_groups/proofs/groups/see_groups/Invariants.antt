use Rattle.std.proofs.Common.{◌≡◌, ◌+◌, ◌-◌, ◌≤◌, true, false, map}
use Rattle.std.specs.List.{flat_map, range_with_len}
use Rattle.std.specs.Option.{ForSome}
use Rattle.xfs_geom.specs.Volumes.{volume_of}
use Rattle.xfs_disk.specs.Reads.{OnlyReads}
use Rattle.xfs_image.specs.Groups.{groups_from}
use Rattle.xfs_image.specs.Reserved.{reserved_in}
use Rattle.xfs_groups.specs.Answers.{hold_no_object, lists_of}
use Rattle.xfs_groups.specs.Private.Chosen.{candidates_in}
use Rattle.xfs_groups.specs.Private.Left.{AreLeft}
use Rattle.xfs_groups.proofs.Grouped.{GroupsPlaced}
use Rattle.xfs_groups.proofs.groups.see_groups.Given as goal

abbrev pub invariant-loop-ag : goal.invariant-loop-ag
invariant-loop-ag g l = record {
  left : ForSome (g.D.Disk.holds l.fn.disk) (λ image. AreLeft (volume_of l.g) image l.all_heads.items l.ag (l.g.agcount - l.ag) l.forests);
  read : ForSome (g.D.Disk.holds l.fn.disk) (λ image. l.all.groups ≡ groups_from (volume_of l.g) image (range_with_len 0 l.ag));
  chosen_so : ForSome (g.D.Disk.holds l.fn.disk) (λ image. (l.looks ≡ false → hold_no_object (volume_of l.g) image l.all.clusters ≡ true) → l.all.clusters ≡ flat_map (candidates_in (volume_of l.g) image) (range_with_len 0 l.ag));
  held_so : ForSome (g.D.Disk.holds l.fn.disk) (λ image. lists_of l.all.trees ≡ map (reserved_in (volume_of l.g) image) (range_with_len 0 l.ag));
  placed : GroupsPlaced l.g l.ag l.all.clusters;
  later : g.D.Disk.faults l.fn.disk ≤ g.D.Disk.faults l.disk;
  disk : OnlyReads g.D.Disk.size g.D.Disk.holds g.D.Disk.write_faults g.D.Disk.writes g.D.Disk.tells_stops g.D.Disk.moment g.D.Disk.may_leave g.D.Disk.left_since l.fn.disk l.disk;
  reads : g.D.Disk.reads l.disk + l.fn.steps ≤ g.D.Disk.reads l.fn.disk + l.steps;
}

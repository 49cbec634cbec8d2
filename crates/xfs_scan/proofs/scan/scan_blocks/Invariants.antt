use Rattle.std.proofs.Common.{◌≡◌, ◌+◌, ◌-◌, ◌≤◌, ◌++◌, true, length, map, take}
use Rattle.std.specs.Option.{ForSome}
use Rattle.xfs_geom.specs.Volumes.{volume_of}
use Rattle.xfs_disk.specs.Reads.{OnlyReads}
use Rattle.xfs_slots.specs.Facts.{slot_fact}
use Rattle.xfs_slots.specs.Gathered.{gathered, held_in, inodes_of_blocks, gathered_both}
use Rattle.xfs_scan.specs.Begun.{all_begin}
use Rattle.xfs_scan.proofs.scan.scan_blocks.Given as goal

abbrev pub invariant-loop-start : goal.invariant-loop-start
invariant-loop-start g l = record {
  within : l.start ≤ length l.blocks;
  slots : ForSome (g.D.Disk.holds l.fn.disk) (λ image.
      l.slots.items ≡ l.fn.slots.items ++ map (slot_fact (volume_of l.g) image) (inodes_of_blocks (volume_of l.g) (take l.start l.blocks)));
  inodes : ForSome (g.D.Disk.holds l.fn.disk) (λ image.
      held_in l.inodes ≡ gathered_both (held_in l.fn.inodes) (gathered (volume_of l.g) image (inodes_of_blocks (volume_of l.g) (take l.start l.blocks))));
  begun : l.begun ≡ true → ForSome (g.D.Disk.holds l.fn.disk) (λ image. all_begin image (take l.start l.blocks) ≡ true);
  later : g.D.Disk.faults l.fn.disk ≤ g.D.Disk.faults l.disk;
  disk : OnlyReads g.D.Disk.size g.D.Disk.holds g.D.Disk.write_faults g.D.Disk.writes g.D.Disk.tells_stops g.D.Disk.moment g.D.Disk.may_leave g.D.Disk.left_since l.fn.disk l.disk;
  reads : g.D.Disk.reads l.disk + l.fn.steps ≤ g.D.Disk.reads l.fn.disk + l.steps;
}

abbrev pub decreases-loop-start : goal.decreases-loop-start
decreases-loop-start g l = length l.blocks - l.start

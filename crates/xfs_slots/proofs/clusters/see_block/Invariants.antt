use Rattle.std.proofs.Common.{◌≡◌, ◌+◌, ◌≤◌}
use Rattle.std.specs.Option.{ForSome}
use Rattle.xfs_geom.specs.Conversions.{inode_of}
use Rattle.xfs_geom.specs.Volumes.{volume_of}
use Rattle.xfs_disk.specs.Reads.{OnlyReads}
use Rattle.xfs_image.specs.Slots.{inodes_of_block}
use Rattle.xfs_slots.specs.Gathered.{gathered, held_in, gathered_both}
use Rattle.xfs_slots.proofs.Rests.{rest_of}
use Rattle.xfs_slots.proofs.clusters.see_block.Given as goal

abbrev pub invariant-loop-slot : goal.invariant-loop-slot
invariant-loop-slot g l = record {
  held : ForSome (g.D.Disk.holds l.fn.disk) (λ image.
      gathered_both (held_in l.inodes) (gathered (volume_of l.g) image (rest_of l.slot 8 (inode_of (volume_of l.g) l.block)))
      ≡ gathered_both (held_in l.fn.inodes) (gathered (volume_of l.g) image (inodes_of_block (volume_of l.g) l.block)));
  later : g.D.Disk.faults l.fn.disk ≤ g.D.Disk.faults l.disk;
  disk : OnlyReads g.D.Disk.size g.D.Disk.holds g.D.Disk.write_faults g.D.Disk.writes g.D.Disk.tells_stops g.D.Disk.moment g.D.Disk.may_leave g.D.Disk.left_since l.fn.disk l.disk;
  reads : g.D.Disk.reads l.disk + l.fn.steps ≤ g.D.Disk.reads l.fn.disk + l.steps;
}

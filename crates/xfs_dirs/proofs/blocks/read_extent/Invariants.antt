use Rattle.std.proofs.Common.{◌≡◌, ◌+◌, ◌≤◌, length}
use Rattle.std.specs.Option.{ForSome}
use Rattle.xfs_geom.specs.Volumes.{volume_of}
use Rattle.xfs_disk.specs.Reads.{OnlyReads}
use Rattle.xfs_tree.proofs.Rest.{rest_of}
use Rattle.xfs_image.specs.Directories.{file_block_at, blocks_of_extent}
use Rattle.xfs_dirs.specs.Gathered.{AreBelow, found_of, with_file_blocks}
use Rattle.xfs_dirs.proofs.blocks.read_extent.Given as goal

abbrev pub invariant-loop-i : goal.invariant-loop-i
invariant-loop-i g l = record {
  ends : l.i-end ≡ l.extent.count;
  found : ForSome (g.D.Disk.holds l.fn.disk) (λ image.
      with_file_blocks (volume_of l.g) l.dir (found_of l.gathered) (rest_of l.i l.extent.count (file_block_at (volume_of l.g) image l.extent))
      ≡ with_file_blocks (volume_of l.g) l.dir (found_of l.fn.gathered) (blocks_of_extent (volume_of l.g) image l.extent));
  below : AreBelow l.gathered.kept (l.extent.offset + l.i);
  block : length l.block ≡ 4096;
  later : g.D.Disk.faults l.fn.disk ≤ g.D.Disk.faults l.disk;
  disk : OnlyReads g.D.Disk.size g.D.Disk.holds g.D.Disk.write_faults g.D.Disk.writes g.D.Disk.tells_stops g.D.Disk.moment g.D.Disk.may_leave g.D.Disk.left_since l.fn.disk l.disk;
  reads : g.D.Disk.reads l.disk + l.fn.steps ≤ g.D.Disk.reads l.fn.disk + l.steps;
}

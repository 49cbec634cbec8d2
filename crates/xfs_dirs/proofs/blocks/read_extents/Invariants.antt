use Rattle.std.proofs.Common.{◌≡◌, ◌+◌, ◌≤◌, true, None, drop}
use Rattle.std.specs.Option.{ForSome}
use Rattle.xfs_geom.specs.Volumes.{volume_of}
use Rattle.xfs_disk.specs.Reads.{OnlyReads}
use Rattle.xfs_inode.specs.Files.{are_extents}
use Rattle.xfs_dirs.specs.Gathered.{blocks_in_extents, found_of, found_nothing, with_file_blocks}
use Rattle.xfs_dirs.proofs.Order.{AreBefore}
use Rattle.xfs_dirs.proofs.blocks.read_extents.Given as goal

abbrev pub invariant-loop-extent : goal.invariant-loop-extent
invariant-loop-extent g l = record {
  found : ForSome (g.D.Disk.holds l.fn.disk) (λ image.
      with_file_blocks (volume_of l.g) l.dir (found_of l.gathered) (blocks_in_extents (volume_of l.g) image (drop l.extent-index l.extents))
      ≡ with_file_blocks (volume_of l.g) l.dir found_nothing (blocks_in_extents (volume_of l.g) image l.extents));
  lawful : are_extents (volume_of l.g) None (drop l.extent-index l.extents) ≡ true;
  before : AreBefore l.gathered.kept (drop l.extent-index l.extents);
  later : g.D.Disk.faults l.fn.disk ≤ g.D.Disk.faults l.disk;
  disk : OnlyReads g.D.Disk.size g.D.Disk.holds g.D.Disk.write_faults g.D.Disk.writes g.D.Disk.tells_stops g.D.Disk.moment g.D.Disk.may_leave g.D.Disk.left_since l.fn.disk l.disk;
  reads : g.D.Disk.reads l.disk + l.fn.steps ≤ g.D.Disk.reads l.fn.disk + l.steps;
}

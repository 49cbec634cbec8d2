-- What the blocks passed bear is known, and each of them was read once.
use Rattle.std.proofs.Common.{◌≡◌, ◌≤◌, ℕ, take}
use Rattle.std.specs.List.{list_any}
use Rattle.std.specs.Option.{ForSome}
use Rattle.xfs_disk.specs.Counts.{raised_times}
use Rattle.xfs_disk.specs.Reads.{OnlyReads}
use Rattle.xfs_disk.specs.Blocks.{bytes_of_block}
use Rattle.xfs_mkfs.specs.Marks.{bears}
use Rattle.xfs_mkfs.proofs.marks.look_at.Given as goal

abbrev pub invariant-loop-block : goal.invariant-loop-block
invariant-loop-block g l = record {
  there : ForSome (g.D.Disk.holds l.fn.disk) (λ image. l.there ≡ list_any (λ (block : ℕ). bears block (bytes_of_block image block)) (take l.block-index l.blocks));
  faults : g.D.Disk.faults l.fn.disk ≤ g.D.Disk.faults l.disk;
  disk : OnlyReads g.D.Disk.size g.D.Disk.holds g.D.Disk.write_faults g.D.Disk.writes g.D.Disk.tells_stops g.D.Disk.moment g.D.Disk.may_leave g.D.Disk.left_since l.fn.disk l.disk;
  reads : g.D.Disk.reads l.disk ≡ raised_times l.block-index (g.D.Disk.reads l.fn.disk);
}

-- The blocks passed were read, and the disk is only read.
use Rattle.std.proofs.Common.{◌≡◌, ◌≤◌, take, length}
use Rattle.std.specs.Option.{ForSome}
use Rattle.xfs_disk.specs.Reads.{OnlyReads}
use Rattle.xfs_collections.specs.Bank.{blocks_at}
use Rattle.xfs_rebuild.proofs.bytes.read_blocks.Given as goal

abbrev pub invariant-loop-place : goal.invariant-loop-place
invariant-loop-place g l = record {
  read : ForSome (g.D.Disk.holds l.fn.disk) (λ image. l.bank ≡ blocks_at image (take l.place-index l.places));
  many : length l.bank ≡ l.place-index;
  faults : g.D.Disk.faults l.fn.disk ≤ g.D.Disk.faults l.disk;
  disk : OnlyReads g.D.Disk.size g.D.Disk.holds g.D.Disk.write_faults g.D.Disk.writes g.D.Disk.tells_stops g.D.Disk.moment g.D.Disk.may_leave g.D.Disk.left_since l.fn.disk l.disk;
}

use Rattle.std.proofs.Common.{◌≡◌, ◌+◌, ◌≤◌, ◌++◌, drop, map}
use Rattle.std.specs.Option.{ForSome}
use Rattle.xfs_disk.specs.Reads.{OnlyReads}
use Rattle.xfs_image.specs.Lsns.{lsn_at}
use Rattle.xfs_journal.specs.Placed.{HoldsBlock, listed}
use Rattle.xfs_journal.proofs.lsns.read_places.Given as goal

abbrev pub invariant-loop-place : goal.invariant-loop-place
invariant-loop-place g l = record {
  lsns : ForSome (g.D.Disk.holds l.fn.disk) (λ image. l.lsns.items ++ map (lsn_at image) (listed (drop l.place-index l.places)) ≡ map (lsn_at image) (listed l.places));
  held : ForSome (g.D.Disk.holds l.fn.disk) (λ image. HoldsBlock image l.held.block l.held.bytes);
  size : l.size ≡ g.D.Disk.size l.fn.disk;
  later : g.D.Disk.faults l.fn.disk ≤ g.D.Disk.faults l.disk;
  disk : OnlyReads g.D.Disk.size g.D.Disk.holds g.D.Disk.write_faults g.D.Disk.writes g.D.Disk.tells_stops g.D.Disk.moment g.D.Disk.may_leave g.D.Disk.left_since l.fn.disk l.disk;
  reads : g.D.Disk.reads l.disk + l.fn.steps ≤ g.D.Disk.reads l.fn.disk + l.steps;
}

-- The blocks that the pairs passed name are the disk's, those behind the list are as they were, and the disk is only read, once for each pair.
use Rattle.std.proofs.Common.{◌≡◌, ◌≤◌, ◌+◌, length, take, drop}
use Rattle.std.specs.Option.{ForSome}
use Rattle.xfs_disk.specs.Reads.{OnlyReads}
use Rattle.xfs_collections.proofs.Scattered.{Placed}
use Rattle.xfs_collections.proofs.bank.BlockBank.fill_by.Given as goal

abbrev pub invariant-loop-k : goal.invariant-loop-k
invariant-loop-k g l = record {
  placed : ForSome (g.D.Disk.holds l.fn.disk) (λ image. Placed image l.self l.places (take l.k l.order));
  rest : drop (length l.places) l.self ≡ drop (length l.places) l.fn.self;
  len : length l.self ≡ length l.fn.self;
  faults : g.D.Disk.faults l.fn.disk ≤ g.D.Disk.faults l.disk;
  disk : OnlyReads g.D.Disk.size g.D.Disk.holds g.D.Disk.write_faults g.D.Disk.writes g.D.Disk.tells_stops g.D.Disk.moment g.D.Disk.may_leave g.D.Disk.left_since l.fn.disk l.disk;
  reads : g.D.Disk.reads l.disk ≤ g.D.Disk.reads l.fn.disk + l.k;
}

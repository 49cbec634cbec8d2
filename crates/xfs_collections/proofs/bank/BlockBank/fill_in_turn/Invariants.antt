-- The blocks passed are the disk's, the others are as they were, and the disk is only read, once for each block passed.
use Rattle.std.proofs.Common.{◌≡◌, ◌≤◌, ◌+◌, ◌-◌, length, take, drop}
use Rattle.std.specs.Option.{ForSome}
use Rattle.xfs_disk.specs.Reads.{OnlyReads}
use Rattle.xfs_collections.specs.Bank.{blocks_at}
use Rattle.xfs_collections.proofs.bank.BlockBank.fill_in_turn.Given as goal

abbrev pub invariant-loop-i : goal.invariant-loop-i
invariant-loop-i g l = record {
  within : l.i ≤ length l.places;
  first : ForSome (g.D.Disk.holds l.fn.disk) (λ image. take l.i l.self ≡ blocks_at image (take l.i l.places));
  rest : drop l.i l.self ≡ drop l.i l.fn.self;
  len : length l.self ≡ length l.fn.self;
  faults : g.D.Disk.faults l.fn.disk ≤ g.D.Disk.faults l.disk;
  disk : OnlyReads g.D.Disk.size g.D.Disk.holds g.D.Disk.write_faults g.D.Disk.writes g.D.Disk.tells_stops g.D.Disk.moment g.D.Disk.may_leave g.D.Disk.left_since l.fn.disk l.disk;
  reads : g.D.Disk.reads l.disk ≤ g.D.Disk.reads l.fn.disk + l.i;
}

abbrev pub decreases-loop-i : goal.decreases-loop-i
decreases-loop-i g l = length l.places - l.i

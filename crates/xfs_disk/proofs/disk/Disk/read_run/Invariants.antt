-- The blocks passed are read into their places, and the disk is only read, once for each of them.
use Rattle.std.proofs.Common.{◌≡◌, ◌≤◌, ◌+◌}
use Rattle.std.specs.Option.{ForSome}
use Rattle.xfs_disk.specs.Blocks.{AreBlocksFrom}
use Rattle.xfs_disk.specs.Counts.{raised_times}
use Rattle.xfs_disk.specs.Reads.{OnlyReads}
use Rattle.xfs_disk.proofs.disk.Disk.read_run.Given as goal

abbrev pub invariant-loop-i : goal.invariant-loop-i
invariant-loop-i g l = record {
  bytes : ForSome (g.Self.Disk.holds l.fn.self) (λ image. AreBlocksFrom image l.at l.i l.into);
  later : g.Self.Disk.faults l.fn.self ≤ g.Self.Disk.faults l.self;
  disk : OnlyReads g.Self.Disk.size g.Self.Disk.holds g.Self.Disk.write_faults g.Self.Disk.writes g.Self.Disk.tells_stops g.Self.Disk.moment g.Self.Disk.may_leave g.Self.Disk.left_since l.fn.self l.self;
  reads : g.Self.Disk.reads l.self ≤ g.Self.Disk.reads l.fn.self + l.i;
  counted : g.Self.Disk.reads l.self ≡ raised_times l.i (g.Self.Disk.reads l.fn.self);
}

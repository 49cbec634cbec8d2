use Rattle.std.proofs.Common.{◌≡◌, ◌≤◌, ◌+◌, ◌-◌, ◌*◌, ◌++◌, length}
use Rattle.std.specs.List.{flat_map, range_with_len}
use Rattle.std.specs.Option.{ForSome}
use Rattle.xfs_disk.specs.Reads.{OnlyReads}
use Rattle.xfs_tree.specs.Blocks.{each_of}
use Rattle.xfs_disk.specs.Blocks.{bytes_of_block}
use Rattle.xfs_journal.specs.Placed.{IsListed, sectors_of, seen_in}
use Rattle.xfs_journal.proofs.log.see_log.Given as goal

abbrev pub invariant-loop-i : goal.invariant-loop-i
invariant-loop-i g l = record {
  within : l.i ≤ l.g.logblocks;
  seen : ForSome (g.D.Disk.holds l.fn.disk) (λ image.
      sectors_of l.log ++ flat_map (λ block. each_of 8 (seen_in (bytes_of_block image block))) (range_with_len (l.g.log + l.i) (l.g.logblocks - l.i))
      ≡ flat_map (λ block. each_of 8 (seen_in (bytes_of_block image block))) (range_with_len l.g.log l.g.logblocks));
  count : length (sectors_of l.log) ≡ 8 * l.i;
  listed : IsListed l.log;
  run : length l.run ≡ 65536;
  later : g.D.Disk.faults l.fn.disk ≤ g.D.Disk.faults l.disk;
  disk : OnlyReads g.D.Disk.size g.D.Disk.holds g.D.Disk.write_faults g.D.Disk.writes g.D.Disk.tells_stops g.D.Disk.moment g.D.Disk.may_leave g.D.Disk.left_since l.fn.disk l.disk;
  reads : g.D.Disk.reads l.disk + l.fn.steps ≤ g.D.Disk.reads l.fn.disk + l.steps;
}

abbrev pub decreases-loop-i : goal.decreases-loop-i
decreases-loop-i g l = l.g.logblocks - l.i

use Rattle.std.proofs.Common.{◌≡◌, ◌+◌, ◌≤◌, length, map}
use Rattle.std.specs.List.{range_with_len}
use Rattle.std.specs.Option.{ForSome}
use Rattle.xfs_geom.specs.Volumes.{volume_of}
use Rattle.xfs_disk.specs.Reads.{OnlyReads}
use Rattle.xfs_groups.specs.Private.Heads.{heads_at}
use Rattle.xfs_groups.proofs.heads.read_all_heads.Given as goal

abbrev pub invariant-loop-ag : goal.invariant-loop-ag
invariant-loop-ag g l = record {
  read : ForSome (g.D.Disk.holds l.fn.disk) (λ image. l.all.items ≡ map (heads_at (volume_of l.g) image) (range_with_len 0 l.ag));
  count : length l.all.items ≡ l.ag;
  later : g.D.Disk.faults l.fn.disk ≤ g.D.Disk.faults l.disk;
  disk : OnlyReads g.D.Disk.size g.D.Disk.holds g.D.Disk.write_faults g.D.Disk.writes g.D.Disk.tells_stops g.D.Disk.moment g.D.Disk.may_leave g.D.Disk.left_since l.fn.disk l.disk;
  reads : g.D.Disk.reads l.disk + l.fn.steps ≤ g.D.Disk.reads l.fn.disk + l.steps;
}

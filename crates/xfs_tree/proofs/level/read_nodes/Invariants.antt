use Rattle.std.proofs.Common.{◌≡◌, ◌+◌, ◌≤◌, ◌++◌, length, drop, None}
use Rattle.std.specs.List.{flat_map}
use Rattle.std.specs.Option.{ForSome}
use Rattle.xfs_geom.specs.Volumes.{volume_of}
use Rattle.xfs_tree.specs.Answers.{IsMet}
use Rattle.xfs_disk.specs.Reads.{OnlyReads}
use Rattle.xfs_tree.specs.Reading.{places_of, below, row_fault}
use Rattle.xfs_tree.proofs.level.read_nodes.Given as goal

abbrev pub invariant-loop-i : goal.invariant-loop-i
invariant-loop-i g l = record {
  ends : l.i-end ≡ length l.row;
  met : IsMet l.met;
  judged : ForSome (g.D.Disk.holds l.fn.disk) (λ image.
      row_fault (g.K.Kind.shape l.kind) (volume_of l.g) image l.level l.met.blocks.items l.left None None (drop l.i l.row)
      ≡ row_fault (g.K.Kind.shape l.kind) (volume_of l.g) image l.level l.fn.met.blocks.items None None None l.row);
  children : ForSome (g.D.Disk.holds l.fn.disk) (λ image.
      l.next.items ++ flat_map (below (g.K.Kind.shape l.kind) (volume_of l.g) image) (drop l.i l.row)
      ≡ flat_map (below (g.K.Kind.shape l.kind) (volume_of l.g) image) l.row);
  blocks : l.met.blocks.items ++ places_of (drop l.i l.row) ≡ l.fn.met.blocks.items ++ places_of l.row;
  block : length l.block ≡ 4096;
  later : g.D.Disk.faults l.fn.disk ≤ g.D.Disk.faults l.disk;
  disk : OnlyReads g.D.Disk.size g.D.Disk.holds g.D.Disk.write_faults g.D.Disk.writes g.D.Disk.tells_stops g.D.Disk.moment g.D.Disk.may_leave g.D.Disk.left_since l.fn.disk l.disk;
  reads : g.D.Disk.reads l.disk + l.fn.steps ≤ g.D.Disk.reads l.fn.disk + l.steps;
}

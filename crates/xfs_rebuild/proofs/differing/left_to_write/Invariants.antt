use Rattle.std.proofs.Common.{◌≡◌, ◌<◌, ◌≤◌, ◌++◌, drop}
use Rattle.std.specs.List.{All}
use Rattle.std.specs.Option.{ForSome}
use Rattle.xfs_disk.specs.Reads.{OnlyReads}
use Rattle.xfs_render.specs.Drafts.{AreInBank}
use Rattle.xfs_writing.specs.declared.rows.Row.{Row}
use Rattle.xfs_rebuild.specs.Differing.{left_to_write}
use Rattle.xfs_rebuild.proofs.differing.left_to_write.Given as goal

abbrev pub invariant-loop-row : goal.invariant-loop-row
invariant-loop-row g l = record {
  left : ForSome (g.D.Disk.holds l.fn.disk) (λ image. l.left.items ++ left_to_write l.bank image (drop l.row-index l.rows) ≡ left_to_write l.bank image l.rows);
  places : All (λ (r : Row). r.at < g.D.Disk.size l.fn.disk) l.left.items;
  kept : AreInBank l.left.items l.bank;
  faults : g.D.Disk.faults l.fn.disk ≤ g.D.Disk.faults l.disk;
  disk : OnlyReads g.D.Disk.size g.D.Disk.holds g.D.Disk.write_faults g.D.Disk.writes g.D.Disk.tells_stops g.D.Disk.moment g.D.Disk.may_leave g.D.Disk.left_since l.fn.disk l.disk;
}

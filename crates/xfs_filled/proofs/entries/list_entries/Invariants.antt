use Rattle.std.proofs.Common.{◌≤◌}
use Rattle.xfs_geom.specs.Volumes.{volume_of}
use Rattle.xfs_filled.proofs.Entering.{AreBelow}
use Rattle.xfs_filled.proofs.entries.list_entries.Given as goal

abbrev pub invariant-loop-i : goal.invariant-loop-i
invariant-loop-i l = record {
  some : 1 ≤ l.i;
  below : AreBelow (volume_of l.g) l.starts l.nodes l.i l.lists.items;
}

use Rattle.std.proofs.Common.{◌≡◌, ◌++◌}
use Rattle.std.specs.List.{range_with_len}
use Rattle.xfs_geom.specs.Groups.{block_of_address}
use Rattle.xfs_changes.proofs.replaced.push_extent.Given as goal

abbrev pub invariant-loop-i : goal.invariant-loop-i
invariant-loop-i l = record {
  pushed : l.blocks.items ≡ l.fn.blocks.items ++ range_with_len (block_of_address l.g.agblocks l.g.agblklog l.extent.start) l.i;
  ends : l.i-end ≡ l.extent.count;
}

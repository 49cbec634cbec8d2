use Rattle.std.proofs.Common.{◌≡◌, ◌+◌, ◌≤◌, ◌^◌, length}
use Rattle.xfs_treebuild.specs.Size.{rows_above}
use Rattle.xfs_render.specs.Counters.{levels}
use Rattle.xfs_render.proofs.counters.levels.Given as goal

abbrev pub invariant-loop-row : goal.invariant-loop-row
invariant-loop-row l = record {
  some : 1 ≤ l.row;
  small : l.row ≤ 2 ^ 28;
  total : l.levels + length (rows_above l.row l.node_cap l.row) ≡ levels l.leaf_cap l.node_cap l.records;
}

abbrev pub decreases-loop-row : goal.decreases-loop-row
decreases-loop-row l = l.row

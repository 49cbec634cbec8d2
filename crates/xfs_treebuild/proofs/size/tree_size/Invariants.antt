use Rattle.std.proofs.Common.{◌≡◌, ◌+◌, ◌*◌, ◌≤◌}
use Rattle.std.specs.List.{sum}
use Rattle.xfs_treebuild.specs.Size.{rows_above, rows_of}
use Rattle.xfs_treebuild.proofs.size.tree_size.Given as goal

abbrev pub invariant-loop-row : goal.invariant-loop-row
invariant-loop-row l = record {
  some : 1 ≤ l.row;
  small : l.size + 2 * l.row ≤ 3 * (l.records + 1);
  total : l.size + sum (rows_above l.row l.node_cap l.row) ≡ sum (rows_of l.leaf_cap l.node_cap l.records);
}

abbrev pub decreases-loop-row : goal.decreases-loop-row
decreases-loop-row l = l.row

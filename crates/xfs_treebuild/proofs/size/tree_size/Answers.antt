use Rattle.std.proofs.Common.{rules, ◌∙◌, ap, arith, ◌+◌}
use Rattle.std.specs.List.{sum}
use Rattle.xfs_treebuild.specs.Size.{rows_above}
use Rattle.xfs_treebuild.proofs.Rows.{levels_begin, level_more, levels_end}
use Rattle.xfs_treebuild.proofs.size.tree_size.Goals as goal

pub loop-row-init : goal.loop-row-init
loop-row-init c = record {
  some = search rules;
  small = omega (arith, c.blocks_for-row.ensures.few);
  total = levels_begin c.args.leaf_cap c.args.node_cap c.args.records _ c.blocks_for-row.ensures.value;
}

pub loop-row-preserved : goal.loop-row-preserved
loop-row-preserved c = record {
  some = search rules;
  small = omega (arith, c.loop-row.invariant.small, c.blocks_for-row-in-loop-row.ensures.fewer c.requires.nodes (omega (arith, c.loop-row-test)));
  total = ap (λ b. c.loop-row.size + b + sum (rows_above b c.args.node_cap b)) c.blocks_for-row-in-loop-row.ensures.value
      ∙ level_more c.args.node_cap c.loop-row.row c.loop-row.size _ c.requires.nodes (omega (arith, c.loop-row-test)) c.loop-row.invariant.total;
}

pub returns : goal.returns
returns c = levels_end c.args.node_cap c.loop-row.row c.loop-row.size _ (omega (arith, c.loop-row-test)) c.loop-row.invariant.total

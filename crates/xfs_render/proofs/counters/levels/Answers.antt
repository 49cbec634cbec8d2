use Rattle.std.proofs.Common.{rules, ◌∙◌, ap, arith, ◌+◌, length}
use Rattle.xfs_treebuild.specs.Size.{rows_above}
use Rattle.xfs_render.proofs.Levels.{levels_begin, level_more, levels_end, levels_few}
use Rattle.xfs_render.proofs.counters.levels.Goals as goal

pub loop-row-init : goal.loop-row-init
loop-row-init c = record {
  some = search rules;
  small = omega (arith, c.blocks_for-row.ensures.few);
  total = levels_begin c.args.leaf_cap c.args.node_cap c.args.records _ c.blocks_for-row.ensures.value;
}

pub loop-row-preserved : goal.loop-row-preserved
loop-row-preserved c = record {
  some = search rules;
  small = omega (arith, c.loop-row.invariant.small, c.blocks_for-row-in-loop-row.ensures.fewer (omega (arith, c.requires.nodes)) (omega (arith, c.loop-row-test)));
  total = ap (λ b. c.loop-row.levels + 1 + length (rows_above b c.args.node_cap b)) c.blocks_for-row-in-loop-row.ensures.value
      ∙ level_more c.args.node_cap c.loop-row.row c.loop-row.levels _ (omega (arith, c.requires.nodes)) (omega (arith, c.loop-row-test)) c.loop-row.invariant.total;
}

pub overflow_add-levels : goal.overflow_add-levels
overflow_add-levels c = omega (arith, c.loop-row.invariant.total, (levels_few c.args.leaf_cap c.args.node_cap c.args.records c.requires.leaves c.requires.nodes c.requires.records).1)

pub returns : goal.returns
returns c =
    let value = levels_end c.args.node_cap c.loop-row.row c.loop-row.levels _ (omega (arith, c.loop-row-test)) c.loop-row.invariant.total in
    let few = levels_few c.args.leaf_cap c.args.node_cap c.args.records c.requires.leaves c.requires.nodes c.requires.records in
    record {
      value = value;
      some = omega (arith, value, few.0);
      few = omega (arith, value, few.1);
    }

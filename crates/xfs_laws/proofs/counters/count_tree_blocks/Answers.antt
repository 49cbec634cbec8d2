use Rattle.std.proofs.Common.{length, arith, sym, ap, ◌∙◌}
use Rattle.xfs_laws.proofs.Trees.{size_past, size_at}
use Rattle.xfs_laws.proofs.counters.count_tree_blocks.Goals as goal

pub returns-then-tree-trees-clause-value : goal.returns-then-tree-trees-clause-value
returns-then-tree-trees-clause-value c = sym (size_past c.args.trees.now c.args.tree c.if-tree-trees.true)

pub returns-clause-value : goal.returns-clause-value
returns-clause-value c =
    ap length c.as_slice.ensures ∙ sym (size_at c.args.trees.now c.args.tree c.index-trees-tree.result (omega (arith, c.if-tree-trees.false)))

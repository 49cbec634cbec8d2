use Rattle.std.proofs.Common.{arith}
use Rattle.xfs_place.proofs.Sizes.{size_small}
use Rattle.xfs_place.proofs.lowest.tree_blocks.Goals as goal

pub returns-clause-some : goal.returns-clause-some
returns-clause-some c = omega (arith, c.tree_size.ensures, (size_small c.args.leaf_cap c.args.node_cap c.args.records c.requires.leaves c.requires.nodes).0)

pub returns-clause-small : goal.returns-clause-small
returns-clause-small c = omega (arith, c.tree_size.ensures, (size_small c.args.leaf_cap c.args.node_cap c.args.records c.requires.leaves c.requires.nodes).1)

use Rattle.std.proofs.Common.{◌*◌, ℕ, length, ◌∙◌, ap, arith}
use Rattle.xfs_place.specs.Choice.{blocks_of_size}
use Rattle.xfs_place.proofs.Found.{free_few}
use Rattle.xfs_place.proofs.lowest.Lowest.space_blocks.Goals as goal

pub tree_blocks-requires-clause-records : goal.tree_blocks-requires-clause-records
tree_blocks-requires-clause-records c =
    omega (arith, c.requires.stands.free', free_few c.args.uses.now (length c.args.self.now.blocks.items), c.requires.few)

pub overflow_mul-result : goal.overflow_mul-result
overflow_mul-result c =
    omega (arith, c.tree_blocks.ensures.small, c.requires.stands.free', free_few c.args.uses.now (length c.args.self.now.blocks.items), c.requires.few)

pub returns-clause-value : goal.returns-clause-value
returns-clause-value c = ap (λ (n : ℕ). 2 * n) (c.tree_blocks.ensures.value ∙ ap (blocks_of_size 505 336) c.requires.stands.free')

pub returns-clause-small : goal.returns-clause-small
returns-clause-small c =
    omega (arith, c.tree_blocks.ensures.small, c.requires.stands.free', free_few c.args.uses.now (length c.args.self.now.blocks.items), c.requires.few)

use Rattle.std.proofs.Common.{◌+◌, ℕ, length, ◌∙◌, ap, ap₂}
use Rattle.xfs_place.specs.Choice.{group, need, owner_count, blocks_of_size}
use Rattle.xfs_place.proofs.lowest.Lowest.need.Goals as goal

pub returns-clause-value : goal.returns-clause-value
unfolding need
returns-clause-value c claim is records =
    let n = length c.args.self.now.blocks.items in
    let owners = c.owners-owners.ensures.value claim is records in
    let tree = c.tree_blocks.ensures.value ∙ ap (blocks_of_size 168 91) (owners ∙ ap (λ (s : ℕ). owner_count (group c.args.uses.now claim c.args.inner) s n) c.space_blocks-space.ensures.value) in
    ap₂ (λ (a b : ℕ). a + c.args.inner + b) c.space_blocks-space.ensures.value tree

use Rattle.std.proofs.Common.{◌≡◌, ℕ, List, IfOk, subst}
use Rattle.xfs_groups.proofs.BlockSets.{lying}
use Rattle.xfs_groups.proofs.sets.BlockSet.within.Goals as goal

pub returns : goal.returns
returns c =
    subst (λ (ys : List ℕ). IfOk c.between.result (λ blocks. blocks.items ≡ ys)) (lying c.args.first c.args.count c.args.self.now c.between.ensures.sorted)
    c.between.ensures.between

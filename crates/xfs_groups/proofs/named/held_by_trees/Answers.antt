use Rattle.std.proofs.Common.{ℕ, List, ◌<◌, ◌^◌, ap, ◌∙◌}
use Rattle.xfs_disk.specs.Lists.{is_among}
use Rattle.xfs_groups.proofs.BlockSets.{made_then}
use Rattle.xfs_groups.proofs.Naming.{held_by_all, low_in, of_named_in}
use Rattle.xfs_groups.proofs.named.held_by_trees.Goals as goal

pub add_both_clusters-requires-clause-xs : goal.add_both_clusters-requires-clause-xs
add_both_clusters-requires-clause-xs c = low_in (λ cluster. cluster < 2 ^ 32) c.args.named.now.chunks _ c.named_in.ensures c.requires.chunks

pub add_both_clusters-requires-clause-ys : goal.add_both_clusters-requires-clause-ys
add_both_clusters-requires-clause-ys c = low_in (λ cluster. cluster < 2 ^ 32) c.args.named.now.owners _ c.named_in-2.ensures c.requires.owners

pub returns : goal.returns
returns c =
    made_then c.into_set.result (λ set is q. is q
    ∙ held_by_all _ _ _ _ _ _ _ _ _ _ (ap (λ (xs : List ℕ). is_among xs q) c.new-list.ensures) (c.in_ok-add_tree.ensures q) (c.in_ok-add_tree-2.ensures q)
    (c.in_ok-add_both_clusters.ensures q) (of_named_in c.args.named.now.chunks _ q c.named_in.ensures) (of_named_in c.args.named.now.owners _ q c.named_in-2.ensures))
    c.into_set.ensures

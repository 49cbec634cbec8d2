use Rattle.std.proofs.Common.{◌∙◌}
use Rattle.xfs_groups.proofs.BlockSets.{made_then}
use Rattle.xfs_groups.proofs.Naming.{named_by_both}
use Rattle.xfs_groups.proofs.named.Named.clusters.Goals as goal

pub returns : goal.returns
returns c =
    made_then c.into_set.result (λ set is q. is q ∙ (c.in_ok-add_both.ensures q
    ∙ named_by_both c.args.self.now.chunks c.args.self.now.owners _ _ _ q c.new-list.ensures c.named_in.ensures c.named_in-2.ensures))
    c.into_set.ensures

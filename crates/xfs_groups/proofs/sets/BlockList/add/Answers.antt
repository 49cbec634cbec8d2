use Rattle.std.proofs.Common.{ap, ◌∙◌, ◌||◌, ◌==◌, List, ℕ}
use Rattle.xfs_disk.specs.Lists.{is_among}
use Rattle.xfs_groups.proofs.BlockSets.{pushed}
use Rattle.xfs_groups.proofs.sets.BlockList.add.Goals as goal

pub returns : goal.returns
returns c = λ q.
    pushed c.args.block c.self.inside.blocks.items _ q c.in_ok-push.ensures.items
    ∙ ap (λ (xs : List ℕ). is_among xs q || c.args.block == q) c.self.view_is

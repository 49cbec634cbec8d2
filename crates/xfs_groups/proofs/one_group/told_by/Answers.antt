use Rattle.std.proofs.Common.{ℕ, List, Option, ◌||◌, ap₂, ◌∙◌}
use Rattle.xfs_image.specs.Clusters.{both_name}
use Rattle.xfs_image.specs.Reserved.{is_of_named, is_of_tree}
use Rattle.xfs_groups.specs.Named.{is_named}
use Rattle.xfs_groups.proofs.one_group.told_by.Goals as goal

pub returns : goal.returns
returns c = λ apart.
    let trees = c.args.trees.now in
    let chunks = c.in_ok-named.ensures.chunks in
    let owners = c.in_ok-named.ensures.owners apart in
    let told = c.in_ok-told.ensures in
    record {
      trusted = told.trusted_is ∙ ap₂ both_name chunks owners;
      named = λ q. told.named_is q ∙ ap₂ (λ (x y : Option (List ℕ)). is_named x y q) chunks owners;
      held = λ q.
          told.held_is q
          ∙ ap₂ (λ (x y : Option (List ℕ)). is_of_tree trees.ino q || is_of_tree trees.rmap q || is_of_named x q || is_of_named y q) chunks owners;
    }

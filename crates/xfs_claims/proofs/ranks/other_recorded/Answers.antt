use Rattle.std.proofs.Common.{ℕ, List, ◌++◌, true, false, map, Vec, Global, ap, ◌∙◌}
use Rattle.std.specs.List.{filter}
use Rattle.xfs_claims.specs.Ranks.{first_block, is_other_recorded}
use Rattle.xfs_claims.proofs.Chosen.{chosen_more, chosen_all}
use Rattle.xfs_claims.proofs.Numbers.{no_cluster}
use Rattle.xfs_claims.proofs.ranks.other_recorded.Goals as goal
use Rattle.xfs_claims.proofs.ranks.other_recorded.Goals.{then-is_other+in_ok-push, else-is_other}

pub loop-cluster-init : goal.loop-cluster-init
loop-cluster-init c = ap (λ (x : List ℕ). x ++ map first_block (filter (is_other_recorded c.args.root) c.args.clusters.now)) c.new-blocks.ensures.items

pub loop-cluster-preserved : goal.loop-cluster-preserved
loop-cluster-preserved c =
    let clusters = c.args.clusters.now in
    let i = c.loop-cluster.cluster-index in
    let whole = map first_block (filter (is_other_recorded c.args.root) clusters) in
    elim c.if-is_other.branch [
      | then-is_other+in_ok-push w ↦
          chosen_more (is_other_recorded c.args.root) first_block clusters i no_cluster true c.loop-cluster.blocks.items _ whole c.loop-cluster-test.true w.if-is_other.ensures
          (ap (λ (v : Vec ℕ Global). v.items) w.blocks-is ∙ w.in_ok-push.ensures.items) c.loop-cluster.invariant
      | else-is_other w ↦
          chosen_more (is_other_recorded c.args.root) first_block clusters i no_cluster false c.loop-cluster.blocks.items _ whole c.loop-cluster-test.true w.if-is_other.ensures
          (ap (λ (v : Vec ℕ Global). v.items) w.blocks-is) c.loop-cluster.invariant
    ]

pub returns : goal.returns
returns c = chosen_all (is_other_recorded c.args.root) first_block c.args.clusters.now c.loop-cluster.cluster-index c.loop-cluster.blocks.items _ c.loop-cluster-test.false c.loop-cluster.invariant

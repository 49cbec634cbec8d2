use Rattle.std.proofs.Common.{refl}
use Rattle.std.proofs.lemmas.Result.{IfOk-from_err}
use Rattle.xfs_claims.specs.Private.Held.{held_of}
use Rattle.xfs_claims.proofs.Counted.{none_counted, two_more, two_within}
use Rattle.xfs_claims.proofs.Kept.{cluster_next, clusters_end}
use Rattle.xfs_claims.proofs.holding.TakenBlocks.keep_clusters.Goals as goal

pub loop-block-init : goal.loop-block-init
loop-block-init g c = (refl, none_counted _)

pub loop-block-preserved : goal.loop-block-preserved
loop-block-preserved g c = (
  cluster_next (held_of c.loop-block.self) (held_of c.keep_cluster.new.self) _ c.args.clusters.now c.loop-block.block-index c.loop-block-test.true c.in_ok-keep_cluster.ensures.held c.loop-block.invariant.0,
  two_more _ _ _ _ c.loop-block.invariant.1 c.in_ok-keep_cluster.ensures.ticks,
)

pub keep_cluster-requires : goal.keep_cluster-requires
keep_cluster-requires g c = c.requires c.loop-block.block-index 0 c.loop-block-test.true

pub returns-in_err-keep_cluster-clause-held : goal.returns-in_err-keep_cluster-clause-held
returns-in_err-keep_cluster-clause-held g c = IfOk-from_err c.from_residual.result _ c.from_residual.ensures.0

pub returns-in_err-keep_cluster-clause-ticks : goal.returns-in_err-keep_cluster-clause-ticks
returns-in_err-keep_cluster-clause-ticks g c = two_within _ _ _ _ _ c.loop-block-test.true c.loop-block.invariant.1 c.in_err-keep_cluster.ensures.ticks

pub returns-clause-held : goal.returns-clause-held
returns-clause-held g c = clusters_end (held_of c.loop-block.self) _ c.args.clusters.now c.loop-block.block-index c.loop-block-test.false c.loop-block.invariant.0

use Rattle.std.proofs.lemmas.Result.{IfOk-from_err}
use Rattle.xfs_salvage.specs.Kept.{run_of_cluster}
use Rattle.xfs_rename.proofs.Further.{mapped_end, mapped_next}
use Rattle.xfs_rename.proofs.wanting.cluster_runs.Goals as goal

pub loop-cluster-preserved : goal.loop-cluster-preserved
loop-cluster-preserved c =
    mapped_next run_of_cluster c.args.clusters.now c.loop-cluster.cluster-index 0 c.loop-cluster.runs.items c.push.new.self.items _ c.loop-cluster-test.true c.in_ok-push.ensures.items
    c.loop-cluster.invariant

pub returns-in_err-push : goal.returns-in_err-push
returns-in_err-push c = IfOk-from_err c.from_residual.result _ c.from_residual.ensures.0

pub returns : goal.returns
returns c = mapped_end run_of_cluster c.args.clusters.now c.loop-cluster.cluster-index c.loop-cluster.runs.items _ c.loop-cluster-test.false c.loop-cluster.invariant

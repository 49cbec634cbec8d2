use Rattle.std.proofs.lemmas.Result.{IfOk-from_err}
use Rattle.xfs_geom.specs.Volumes.{volume_of}
use Rattle.xfs_image.specs.Slots.{cluster_blocks}
use Rattle.xfs_rebuild.specs.Places.{has_wanted}
use Rattle.xfs_rebuild.proofs.Listed.{passed_end, passed_more}
use Rattle.xfs_rebuild.proofs.places.push_clusters.Goals as goal

pub loop-cluster-preserved : goal.loop-cluster-preserved
loop-cluster-preserved c =
    record {
      more = passed_more (has_wanted (volume_of c.args.g.now) c.args.slots.now) cluster_blocks c.loop-cluster.places.items c.push_cluster.new.places.items _ c.args.clusters.now
          c.loop-cluster.cluster-index _ c.loop-cluster-test.true c.in_ok-push_cluster.ensures.more c.loop-cluster.invariant.more;
      low = c.in_ok-push_cluster.ensures.low;
    }

pub push_cluster-requires-clause-cluster : goal.push_cluster-requires-clause-cluster
push_cluster-requires-clause-cluster c = c.requires.lie c.loop-cluster.cluster-index 0 c.loop-cluster-test.true

pub push_cluster-requires-clause-order : goal.push_cluster-requires-clause-order
push_cluster-requires-clause-order c = c.requires.order

pub push_cluster-requires-clause-low : goal.push_cluster-requires-clause-low
push_cluster-requires-clause-low c = c.loop-cluster.invariant.low

pub returns-in_err-push_cluster : goal.returns-in_err-push_cluster
returns-in_err-push_cluster c =
    record { more = IfOk-from_err c.from_residual.result _ c.from_residual.ensures.0; low = IfOk-from_err c.from_residual.result _ c.from_residual.ensures.0 }

pub returns : goal.returns
returns c = record {
  more = passed_end (has_wanted (volume_of c.args.g.now) c.args.slots.now) cluster_blocks c.args.clusters.now c.loop-cluster.cluster-index c.loop-cluster.places.items _
      c.loop-cluster-test.false c.loop-cluster.invariant.more;
  low = c.loop-cluster.invariant.low;
}

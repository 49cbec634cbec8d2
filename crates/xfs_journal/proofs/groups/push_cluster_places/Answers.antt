use Rattle.std.proofs.Common.{length, refl, arith}
use Rattle.xfs_image.specs.Lsns.{cluster_places}
use Rattle.xfs_journal.specs.Placed.{listed}
use Rattle.xfs_journal.proofs.Listing.{held_all, held_at}
use Rattle.std.proofs.lemmas.Result.{IfOk-from_err}
use borrow.Author.Count.{falls}
use Rattle.xfs_journal.proofs.groups.push_cluster_places.Goals as goal

pub loop-cluster-preserved : goal.loop-cluster-preserved
loop-cluster-preserved c =
    record {
      listed = held_at cluster_places c.args.clusters.now c.loop-cluster.cluster-index 0 (listed c.loop-cluster.places.items) (listed c.push_cluster.new.places.items) _
          c.loop-cluster-test.true c.in_ok-push_cluster.ensures.listed c.loop-cluster.invariant.listed;
      inside = c.push_cluster.ensures.inside;
    }

pub loop-cluster-init : goal.loop-cluster-init
loop-cluster-init c = record { listed = refl; inside = c.requires.inside }

pub push_cluster-requires-clause-inside : goal.push_cluster-requires-clause-inside
push_cluster-requires-clause-inside c = c.loop-cluster.invariant.inside

pub push_cluster-requires-clause-low : goal.push_cluster-requires-clause-low
push_cluster-requires-clause-low c = c.requires.low c.loop-cluster.cluster-index 0 c.loop-cluster-test.true

pub returns-in_err-push_cluster-clause-listed : goal.returns-in_err-push_cluster-clause-listed
returns-in_err-push_cluster-clause-listed c = IfOk-from_err c.from_residual.result _ c.from_residual.ensures.0

pub returns-in_err-push_cluster-clause-inside : goal.returns-in_err-push_cluster-clause-inside
returns-in_err-push_cluster-clause-inside c = c.push_cluster.ensures.inside

pub loop-cluster-smaller : goal.loop-cluster-smaller
loop-cluster-smaller c = falls (length c.args.clusters.now) c.loop-cluster.cluster-index c.loop-cluster-test.true

pub returns-clause-listed : goal.returns-clause-listed
returns-clause-listed c = held_all cluster_places c.args.clusters.now c.loop-cluster.cluster-index (listed c.loop-cluster.places.items) _ (omega (arith, c.loop-cluster-test.false)) c.loop-cluster.invariant.listed

pub returns-clause-inside : goal.returns-clause-inside
returns-clause-inside c = c.loop-cluster.invariant.inside

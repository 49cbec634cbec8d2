use Rattle.std.proofs.Common.{get_or, arith}
use Rattle.std.proofs.lemmas.List.Elements.{All-more}
use Rattle.xfs_volume.specs.declared.clusters.ClusterRec.{ClusterRec}
use Rattle.xfs_claims.specs.Keeping.{EndsLow}
use Rattle.xfs_claims.proofs.Numbers.{no_cluster}
use Rattle.xfs_claims.proofs.Different.{all_from_take}
use Rattle.xfs_volume_tests.proofs.claims.sound.end_low.Goals as goal

pub loop-cluster-preserved : goal.loop-cluster-preserved
loop-cluster-preserved c =
    let one : EndsLow (get_or c.args.clusters.now c.loop-cluster.cluster-index no_cluster).block = omega arith in
    All-more (λ (x : ClusterRec). EndsLow x.block) c.args.clusters.now c.loop-cluster.cluster-index no_cluster c.loop-cluster-test.true c.loop-cluster.invariant one

pub returns : goal.returns
returns c = λ t. all_from_take (λ (x : ClusterRec). EndsLow x.block) c.args.clusters.now c.loop-cluster.cluster-index c.loop-cluster-test.false c.loop-cluster.invariant

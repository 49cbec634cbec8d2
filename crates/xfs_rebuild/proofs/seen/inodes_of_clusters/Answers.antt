use Rattle.std.proofs.Common.{ℕ, List, ◌++◌, false, ap}
use Rattle.std.specs.List.{flat_map}
use Rattle.std.proofs.lemmas.Result.{IfOk-from_err}
use Rattle.xfs_geom.specs.Volumes.{volume_of}
use Rattle.xfs_image.specs.Slots.{cluster_inodes}
use Rattle.xfs_volume.specs.declared.clusters.ClusterRec.{ClusterRec}
use Rattle.xfs_rebuild.specs.Seen.{inodes_of_clusters}
use Rattle.xfs_rebuild.proofs.Listed.{listed_end, listed_more}
use Rattle.xfs_rebuild.proofs.seen.inodes_of_clusters.Goals as goal

-- what stands behind the last
abbrev no_cluster : ClusterRec
no_cluster = record { block = 0; recorded = false }

pub loop-cluster-init : goal.loop-cluster-init
loop-cluster-init c =
    let of = λ (k : ClusterRec). cluster_inodes (volume_of c.args.g.now) k.block in
    ap (λ (xs : List ℕ). xs ++ flat_map of c.args.clusters.now) c.new-inodes.ensures.items

pub loop-cluster-preserved : goal.loop-cluster-preserved
loop-cluster-preserved c =
    listed_more (λ (k : ClusterRec). cluster_inodes (volume_of c.args.g.now) k.block) c.args.clusters.now c.loop-cluster.cluster-index no_cluster
    c.loop-cluster.inodes.items c.push_cluster.new.inodes.items _ c.loop-cluster-test.true c.in_ok-push_cluster.ensures c.loop-cluster.invariant

pub returns : goal.returns
unfolding inodes_of_clusters
returns c =
    listed_end (λ (k : ClusterRec). cluster_inodes (volume_of c.args.g.now) k.block) c.args.clusters.now c.loop-cluster.cluster-index c.loop-cluster.inodes.items _
    c.loop-cluster-test.false c.loop-cluster.invariant

pub returns-in_err-push_cluster : goal.returns-in_err-push_cluster
returns-in_err-push_cluster c = IfOk-from_err c.from_residual.result _ c.from_residual.ensures.0

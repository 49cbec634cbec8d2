use Rattle.std.proofs.Common.{ℕ, List, ◌++◌, ◌<◌, ◌^◌, sym, subst, ap}
use Rattle.std.specs.List.{All}
use Rattle.std.proofs.lemmas.List.Elements.{All-nil}
use Rattle.std.proofs.lemmas.Result.{IfOk-from_err}
use Rattle.xfs_geom.specs.Volumes.{volume_of}
use Rattle.xfs_changes.specs.Nodes.{first_of_cluster, firsts_of_clusters}
use Rattle.xfs_changes.proofs.Pushing.{items_end, items_more}
use Rattle.xfs_changes.proofs.nodes.firsts_of_clusters.Goals as goal

pub loop-cluster-init : goal.loop-cluster-init
loop-cluster-init c =
    let none = c.new-inodes.ensures.items in
    record {
      first = ap (λ (xs : List ℕ). xs ++ firsts_of_clusters (volume_of c.args.g.now) c.args.clusters.now) none;
      low = subst (All (λ (first : ℕ). first < 2 ^ 32)) (sym none) (All-nil (λ (first : ℕ). first < 2 ^ 32));
    }

pub push_inode-requires : goal.push_inode-requires
push_inode-requires c = record { low = c.loop-cluster.invariant.low }

pub loop-cluster-preserved : goal.loop-cluster-preserved
loop-cluster-preserved c =
    let pushed = c.in_ok-push_inode.ensures in
    record {
      first =
          items_more (first_of_cluster (volume_of c.args.g.now)) c.args.clusters.now c.loop-cluster.cluster-index 0 c.loop-cluster.inodes.items c.push_inode.new.inodes.items _
          c.loop-cluster-test.true pushed.more c.loop-cluster.invariant.first;
      low = pushed.low;
    }

pub returns : goal.returns
returns c = record {
  inodes =
      items_end (first_of_cluster (volume_of c.args.g.now)) c.args.clusters.now c.loop-cluster.cluster-index c.loop-cluster.inodes.items _ c.loop-cluster-test.false
      c.loop-cluster.invariant.first;
  low = c.loop-cluster.invariant.low;
}

pub returns-in_err-push_inode : goal.returns-in_err-push_inode
returns-in_err-push_inode c = record { inodes = IfOk-from_err c.from_residual.result _ c.from_residual.ensures.0; low = IfOk-from_err c.from_residual.result _ c.from_residual.ensures.0 }

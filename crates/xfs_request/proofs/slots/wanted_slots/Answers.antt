use Rattle.std.proofs.Common.{ℕ, List, ◌++◌, ap, ◌∙◌}
use Rattle.std.specs.List.{flat_map}
use Rattle.std.proofs.lemmas.Result.{IfOk-from_err}
use Rattle.xfs_geom.specs.Volumes.{volume_of}
use Rattle.xfs_render.specs.declared.wanted_slots.SlotWanted.{SlotWanted}
use Rattle.xfs_request.specs.Slots.{cluster_slots, wanted_slots}
use Rattle.xfs_request.proofs.Rows.{listed_end, listed_more}
use Rattle.xfs_request.proofs.slots.wanted_slots.Goals as goal

pub loop-cluster-init : goal.loop-cluster-init
loop-cluster-init c =
    let of = cluster_slots (volume_of c.args.basis.now.g.now) c.args.basis.now.stamp.now c.args.basis.now.kept.now c.args.basis.now.slots.now in
    ap (λ (xs : List SlotWanted). xs ++ flat_map of c.as_slice-clusters.result.now) c.new-slots.ensures.items

pub push_cluster-requires : goal.push_cluster-requires
push_cluster-requires c = record { low = c.requires.low; order = c.requires.order }

pub loop-cluster-preserved : goal.loop-cluster-preserved
loop-cluster-preserved c =
    let of = cluster_slots (volume_of c.args.basis.now.g.now) c.args.basis.now.stamp.now c.args.basis.now.kept.now c.args.basis.now.slots.now in
    listed_more of c.as_slice-clusters.result.now c.loop-cluster.cluster-index 0 c.loop-cluster.slots.items c.push_cluster.new.slots.items _
    c.loop-cluster-test.true c.in_ok-push_cluster.ensures c.loop-cluster.invariant

pub returns : goal.returns
unfolding wanted_slots
returns c =
    let of = cluster_slots (volume_of c.args.basis.now.g.now) c.args.basis.now.stamp.now c.args.basis.now.kept.now c.args.basis.now.slots.now in
    listed_end of c.as_slice-clusters.result.now c.loop-cluster.cluster-index c.loop-cluster.slots.items _ c.loop-cluster-test.false c.loop-cluster.invariant
    ∙ ap (flat_map of) c.as_slice-clusters.ensures

pub returns-in_err-push_cluster : goal.returns-in_err-push_cluster
returns-in_err-push_cluster c = IfOk-from_err c.from_residual.result _ c.from_residual.ensures.0

use Rattle.std.proofs.Common.{Bool, false, ◌&&◌, ◌||◌, ◌==◌, get_or, refl, sym, ap, ◌∙◌}
use Rattle.std.specs.List.{list_any}
use Rattle.std.proofs.lemmas.List.{take_all}
use Rattle.std.proofs.lemmas.List.Folds.{list_any_more, list_any_at}
use Rattle.xfs_volume.specs.declared.clusters.ClusterRec.{ClusterRec}
use Rattle.xfs_salvage.proofs.claiming.has_recorded.Goals as goal

abbrev no_cluster : ClusterRec
no_cluster = record { block = 0; recorded = false }

pub loop-cluster-init : goal.loop-cluster-init
loop-cluster-init c = refl

pub loop-cluster-preserved : goal.loop-cluster-preserved
loop-cluster-preserved c =
    let p = λ (k : ClusterRec). k.recorded && k.block == c.args.block in
    let all = c.args.clusters.now in
    let i = c.loop-cluster.cluster-index in
    list_any_more p all i no_cluster c.loop-cluster-test.true ∙ ap (λ (t : Bool). t || p (get_or all i no_cluster)) c.loop-cluster.invariant
    ∙ (sym c.is_recorded_at.ensures ∙ c.if-is_recorded_at.false)

pub returns-then-is_recorded_at : goal.returns-then-is_recorded_at
returns-then-is_recorded_at c =
    let p = λ (k : ClusterRec). k.recorded && k.block == c.args.block in
    let all = c.args.clusters.now in
    let i = c.loop-cluster.cluster-index in
    sym (list_any_at p all i no_cluster c.loop-cluster-test.true ((sym c.is_recorded_at.ensures ∙ c.if-is_recorded_at.true)))

pub returns : goal.returns
returns c =
    let p = λ (k : ClusterRec). k.recorded && k.block == c.args.block in
    sym (ap (list_any p) (sym (take_all c.loop-cluster.cluster-index c.args.clusters.now c.loop-cluster-test.false)) ∙ c.loop-cluster.invariant)

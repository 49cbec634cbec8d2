use Rattle.std.proofs.Common.{◌≡◌, ap, ◌∙◌, arith}
use Rattle.xfs_geom.specs.Volumes.{volume_of}
use Rattle.xfs_groups.specs.Private.Forests.{grown_from}
use Rattle.xfs_groups.proofs.Taken.{grown_more}
use Rattle.xfs_groups.proofs.forests.plants_of.Goals as goal

pub loop-ag-preserved : goal.loop-ag-preserved
loop-ag-preserved g c = λ image.
    grown_more g.K.Kind.shape g.K.GroupKind.kind_of (volume_of c.args.g.now) image g.K.GroupKind.root_of c.args.heads.now c.loop-ag.ag c.root_at.result _ _ c.root_at.ensures
    (c.loop-ag.invariant image) (c.in_ok-push_plant.ensures image)

pub returns : goal.returns
returns g c = λ image.
    let last : c.loop-ag.ag ≡ c.args.g.now.agcount = omega arith in
    c.loop-ag.invariant image ∙ ap (grown_from g.K.Kind.shape g.K.GroupKind.kind_of (volume_of c.args.g.now) image g.K.GroupKind.root_of c.args.heads.now 0) last

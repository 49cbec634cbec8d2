use Rattle.std.proofs.Common.{◌+◌, arith, refl}
use Rattle.xfs_geom.specs.Conversions.{is_fixed}
use Rattle.xfs_geom.specs.Volumes.{volume_of}
use Rattle.xfs_place.specs.declared.uses.Use.TheVariants.{Claimed}
use Rattle.xfs_place.proofs.Marking.{log_end, marks_then}
use Rattle.xfs_place.proofs.uses.claim_fixed.Goals as goal

pub mark_in-requires : goal.mark_in-requires
mark_in-requires c =
    let g = c.args.g.now in
    omega (arith, log_end g.dblocks g.agblocks g.agcount g.log g.logblocks g.shape.groups g.shape.log_inside, g.shape.groups.small)

pub returns : goal.returns
returns c = marks_then c.args.uses.now c.claim_headers.new.uses c.mark_in.new.uses _ _ (λ b. is_fixed (volume_of c.args.g.now) (c.args.from + b)) Claimed c.claim_headers.ensures c.mark_in.ensures (λ b h. refl)

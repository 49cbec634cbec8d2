use Rattle.std.proofs.Common.{◌*◌, length, sym, ap, subst, arith}
use Rattle.xfs_geom.specs.Volumes.{volume_of}
use Rattle.xfs_place.specs.Choice.{IsPlacingGroup, group_claimed}
use Rattle.xfs_place.specs.Placing.{inner_blocks}
use Rattle.xfs_place.specs.Wanted.{group_in}
use Rattle.xfs_place.proofs.GroupIs.{group_is, length_uses}
use Rattle.xfs_place.proofs.OneGroup.{claims_here, placed_here, same_here}
use Rattle.xfs_place.proofs.Parted.{runs_rise}
use Rattle.std.proofs.lemmas.Result.{IfOk-from_err}
use Rattle.xfs_place.proofs.volume_placing.place_one.Goals as goal

pub place_group-requires-clause-few : goal.place_group-requires-clause-few
place_group-requires-clause-few c =
    let w = c.args.work.now in
    let g = w.geometry.now in
    let long = c.group_length-blocks.ensures in (
      omega (arith, ap length c.requires.uses, length_uses (volume_of g) w.kept.now w.reserved.now c.args.ag, long.most, long.value, g.shape.groups.last, g.shape.groups.small),
      c.requires.few,
    )

pub place_group-requires-clause-group : goal.place_group-requires-clause-group
place_group-requires-clause-group c =
    let w = c.args.work.now in
    let g = w.geometry.now in
    let v = volume_of g in
    let ag = c.args.ag in
    let inner = inner_blocks c.args.inodes.now in
    let long = c.group_length-blocks.ensures in
    let same = same_here v w.kept.now w.reserved.now w.claims.now ag g.shape.groups c.requires.group c.requires.claims c.start_of_group-base.result c.group_length-blocks.result
    c.start_of_group-base.ensures.value long.value c.in_ok-claims.claims.items c.deref.result.now c.deref.ensures.value c.in_ok-claims.ensures c.args.uses.now inner c.requires.uses in
    subst IsPlacingGroup (sym same)
    (group_is v w.kept.now w.reserved.now ag inner c.requires.kept c.requires.group (omega (arith, g.shape.groups.large)) (omega (arith, long.least, long.value)) (omega (arith, long.most, long.value)))

pub place_group-requires-clause-claims : goal.place_group-requires-clause-claims
place_group-requires-clause-claims c =
    let w = c.args.work.now in
    let g = w.geometry.now in
    let long = c.group_length-blocks.ensures in
    claims_here (volume_of g) w.kept.now w.reserved.now w.claims.now c.args.ag g.shape.groups c.requires.group c.requires.claims c.start_of_group-base.result c.group_length-blocks.result
    c.start_of_group-base.ensures.value long.value c.in_ok-claims.claims.items c.deref.result.now c.deref.ensures.value c.in_ok-claims.ensures c.args.uses.now c.requires.uses

pub returns : goal.returns
returns c =
    let w = c.args.work.now in
    let g = w.geometry.now in
    let v = volume_of g in
    let ag = c.args.ag in
    let inner = inner_blocks c.args.inodes.now in
    let long = c.group_length-blocks.ensures in
    let same = same_here v w.kept.now w.reserved.now w.claims.now ag g.shape.groups c.requires.group c.requires.claims c.start_of_group-base.result c.group_length-blocks.result
    c.start_of_group-base.ensures.value long.value c.in_ok-claims.claims.items c.deref.result.now c.deref.ensures.value c.in_ok-claims.ensures c.args.uses.now inner c.requires.uses in
    placed_here c.in_ok-place_group.field-0 (group_in v w.kept.now w.reserved.now ag inner) (group_claimed c.args.uses.now c.deref.result.now inner)
    c.start_of_group-base.result (ag * g.agblocks) c.args.inodes.now same c.start_of_group-base.ensures.value c.in_ok-place_group.ensures

pub list_group-requires-clause-order : goal.list_group-requires-clause-order
list_group-requires-clause-order c = runs_rise 0 c.args.work.now.claims.now c.requires.claims.claims'.ascend

pub returns-in_err-claims : goal.returns-in_err-claims
returns-in_err-claims c = IfOk-from_err c.from_residual.result _ c.from_residual.ensures.0

pub returns-in_err-place_group : goal.returns-in_err-place_group
returns-in_err-place_group c = IfOk-from_err c.from_residual-in_err-place_group.result _ c.from_residual-in_err-place_group.ensures.0

use Rattle.std.proofs.Common.{◌≡◌, ◌+◌, ◌*◌, ◌%◌, ◌≤◌, ◌<◌, ◌&&◌, ℕ, nat_lt, subst, arith}
use Rattle.xfs_disk.specs.Lists.{is_in_range}
use Rattle.xfs_geom.specs.Volumes.{volume_of}
use Rattle.xfs_place.specs.declared.uses.Use.TheVariants.{Claimed}
use Rattle.xfs_place.proofs.Marking.{fronts_more, marks_all_before, marks_none_before, marks_then, stands_in}
use Rattle.xfs_place.proofs.open_rows.close_fronts.Goals as goal

pub loop-ag-preserved : goal.loop-ag-preserved
loop-ag-preserved c =
    let g = c.args.g.now in
    let width = g.agblocks in
    let ag = c.loop-ag.ag in
    let at = c.start_of_group.result in
    let blocks = c.min-blocks.result in
    let long = c.group_length.ensures in
    let some : 1 ≤ width = omega (arith, g.shape.groups.large) in
    marks_then c.args.uses.now c.loop-ag.uses c.mark.new.uses (λ b. nat_lt (b % width) c.args.from && nat_lt b (ag * width)) (is_in_range at blocks)
    (λ b. nat_lt (b % width) c.args.from && nat_lt b ((ag + 1) * width)) Claimed c.loop-ag.invariant c.mark.ensures
    (λ b h. fronts_more width c.group_length.result c.args.from ag at blocks b c.start_of_group.ensures.value c.min-blocks.ensures long.most (λ near.
    stands_in (volume_of g) ag b at c.group_length.result c.start_of_group.ensures.value long.value (omega (arith, h, c.requires)) near) some)

pub loop-ag-init : goal.loop-ag-init
loop-ag-init c = marks_none_before c.args.g.now.agblocks c.args.uses.now (λ b. nat_lt (b % c.args.g.now.agblocks) c.args.from) (λ b. b) Claimed

pub start_of_group-requires : goal.start_of_group-requires
start_of_group-requires c = c.loop-ag-test.true

pub group_length-requires : goal.group_length-requires
group_length-requires c = c.loop-ag-test.true

pub returns : goal.returns
returns c =
    let g = c.args.g.now in
    let all : c.loop-ag.ag ≡ g.agcount = omega (arith, c.loop-ag-test.false, c.loop-ag.auto.ag-end) in
    marks_all_before c.loop-ag.ag g.dblocks g.agblocks g.agcount c.args.uses.now c.loop-ag.uses (λ b. nat_lt (b % g.agblocks) c.args.from) (λ b. b) Claimed g.shape.groups all
    (λ b low. subst (λ (n : ℕ). b < n) c.requires low) c.loop-ag.invariant

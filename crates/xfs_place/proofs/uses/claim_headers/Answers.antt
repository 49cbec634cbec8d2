use Rattle.std.proofs.Common.{ℕ, ◌≡◌, ◌+◌, ◌*◌, ◌%◌, ◌==◌, ◌&&◌, ◌<◌, ◌≤◌, ◌^◌, nat_lt, length, arith}
use Rattle.xfs_geom.specs.Shape.{HasGroups}
use Rattle.xfs_disk.specs.Lists.{is_in_range}
use Rattle.xfs_place.specs.declared.uses.Use.TheVariants.{Claimed}
use Rattle.xfs_place.proofs.Marking.{headers_next, marks_all_before, marks_none_before, marks_then}
use Rattle.xfs_place.proofs.uses.claim_headers.Goals as goal

pub loop-ag-init : goal.loop-ag-init
loop-ag-init c = marks_none_before c.args.g.now.agblocks c.args.uses.now (λ b. (c.args.from + b) % c.args.g.now.agblocks == 0) (λ b. c.args.from + b) Claimed

pub start_of_group-requires : goal.start_of_group-requires
start_of_group-requires c = c.loop-ag-test.true

small_start : (blocks width groups start : ℕ) → HasGroups blocks width groups → start < blocks → start + 1 < 2 ^ 63
small_start blocks width groups start has inside = omega (arith, has.small, inside)

pub mark_in-requires : goal.mark_in-requires
mark_in-requires c =
    let g = c.args.g.now in
    small_start g.dblocks g.agblocks g.agcount c.start_of_group.result g.shape.groups c.start_of_group.ensures.inside

pub loop-ag-preserved : goal.loop-ag-preserved
loop-ag-preserved c =
    let width = c.args.g.now.agblocks in
    let ag = c.loop-ag.ag in
    let from = c.args.from in
    let at = c.start_of_group.result in
    let some : 1 ≤ width = omega (arith, c.args.g.now.shape.groups.large) in
    marks_then c.args.uses.now c.loop-ag.uses c.mark_in.new.uses (λ b. (from + b) % width == 0 && nat_lt (from + b) (ag * width)) (λ b. is_in_range at 1 (from + b))
    (λ b. (from + b) % width == 0 && nat_lt (from + b) ((ag + 1) * width)) Claimed c.loop-ag.invariant c.mark_in.ensures (λ b h. headers_next width ag at (from + b) c.start_of_group.ensures.value some)

all_inside : (from n blocks : ℕ) → from + n ≤ blocks → (b : ℕ) → b < n → from + b < blocks
all_inside from n blocks inside b low = omega (arith, inside, low)

pub returns : goal.returns
returns c =
    let g = c.args.g.now in
    let all : c.loop-ag.ag ≡ g.agcount = omega (arith, c.loop-ag-test.false, c.loop-ag.auto.ag-end) in
    marks_all_before c.loop-ag.ag g.dblocks g.agblocks g.agcount c.args.uses.now c.loop-ag.uses (λ b. (c.args.from + b) % g.agblocks == 0) (λ b. c.args.from + b) Claimed g.shape.groups all
    (all_inside c.args.from (length c.args.uses.now) g.dblocks c.requires) c.loop-ag.invariant

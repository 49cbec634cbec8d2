use Rattle.std.proofs.Common.{◌≡◌, inr, ℕ, List, length, refl, sym, ap, subst, arith}
use borrow.Author.Count.{falls}
use Rattle.std.proofs.lemmas.Result.{IfOk-from_err}
use Rattle.std.specs.List.{All}
use Rattle.xfs_geom.specs.Volumes.{volume_of}
use Rattle.xfs_geom.specs.declared.records.Run.{Run}
use Rattle.xfs_place.specs.Claims.{IsClaimedRun}
use Rattle.xfs_place.specs.Pool.{IsRunOf}
use Rattle.xfs_place.specs.Wanted.{AreAllClaims, ArePlaced}
use Rattle.xfs_place.proofs.GroupsPlaced.{no_room_at, one_more}
use Rattle.xfs_place.proofs.OfPool.{all_of_pool}
use Rattle.xfs_place.proofs.volume_placing.place_groups.Goals as goal

pub returns-in_default-clause-cause : goal.returns-in_default-clause-cause
returns-in_default-clause-cause c =
    let g = c.args.g.now in
    inr (
      c.loop-ag.ag,
      refl,
      no_room_at (volume_of g) c.args.kept.now c.args.reserved.now c.args.inodes.now c.loop-ag.ag c.loop-ag.groups.items c.index-inodes-ag.result c.as_slice-records.result.now
          c.in_ok-placed.field-0 c.loop-ag.invariant.placed' c.loop-ag-test.true (omega (arith, c.loop-ag-test.true, c.requires.inodes)) c.as_slice-records.ensures c.in_ok-placed.ensures c.in_default.is,
    )

pub loop-ag-preserved : goal.loop-ag-preserved
loop-ag-preserved c =
    let g = c.args.g.now in
    record {
      stands = c.in_ok-reach.ensures.stands;
      placed' =
          one_more (volume_of g) c.args.kept.now c.args.reserved.now c.args.inodes.now c.loop-ag.ag c.loop-ag.groups.items c.push.new.self.items c.index-inodes-ag.result c.as_slice-records.result.now
          c.in_ok-placed.field-0 c.in-Some.placed c.loop-ag.invariant.placed' (omega (arith, c.loop-ag-test.true, c.requires.inodes)) c.as_slice-records.ensures c.in_ok-placed.ensures c.in-Some.is c.in_ok-push.ensures.items;
    }

pub place_one-requires-clause-few : goal.place_one-requires-clause-few
place_one-requires-clause-few c =
    let one = c.requires.few c.loop-ag.ag c.index-inodes-ag.result (omega (arith, c.loop-ag-test.true, c.requires.inodes)) in
    omega (arith, one, ap length c.as_slice-records.ensures)

pub place_one-requires-clause-uses : goal.place_one-requires-clause-uses
place_one-requires-clause-uses c = c.group-uses.ensures c.args.kept.now c.args.reserved.now c.in_ok-reach.ensures.stands

pub returns-clause-pool : goal.returns-clause-pool
returns-clause-pool c =
    let v = volume_of c.args.g.now in
    let all : c.loop-ag.ag ≡ c.args.g.now.agcount = omega (arith, c.loop-ag-test.false, c.loop-ag.auto.ag-end) in
    all_of_pool v c.args.kept.now c.args.reserved.now c.args.inodes.now c.args.g.now.agcount c.loop-ag.groups.items
    (subst (λ (n : ℕ). ArePlaced v c.args.kept.now c.args.reserved.now c.args.inodes.now n c.loop-ag.groups.items) all c.loop-ag.invariant.placed')

pub loop-ag-init : goal.loop-ag-init
loop-ag-init c = record {
  stands = c.new-window.ensures (volume_of c.args.g.now) c.args.kept.now c.args.reserved.now;
  placed' = record { all = ap length c.new-groups.ensures.items; each = λ ag d low. absurd (omega (arith, low)) };
}

pub reach-requires-clause-group : goal.reach-requires-clause-group
reach-requires-clause-group c = c.loop-ag-test.true

pub reach-requires-clause-stands : goal.reach-requires-clause-stands
reach-requires-clause-stands c = c.loop-ag.invariant.stands

-- what is kept are runs of the volume
runs_of : (blocks : ℕ) (runs : List Run) → All (IsClaimedRun blocks) runs → All (IsRunOf blocks) runs
runs_of blocks runs each = λ k d low. ((each k d low).some, (each k d low).inside)

pub reach-requires-clause-runs : goal.reach-requires-clause-runs
reach-requires-clause-runs c = runs_of c.args.g.now.dblocks c.args.kept.now c.requires.kept.each

pub group-uses-requires-clause-group : goal.group-uses-requires-clause-group
group-uses-requires-clause-group c = c.loop-ag-test.true

pub group-uses-requires-clause-there : goal.group-uses-requires-clause-there
group-uses-requires-clause-there c = c.in_ok-reach.ensures.there

pub place_one-requires-clause-group : goal.place_one-requires-clause-group
place_one-requires-clause-group c = c.loop-ag-test.true

pub place_one-requires-clause-kept : goal.place_one-requires-clause-kept
place_one-requires-clause-kept c = c.requires.kept

pub place_one-requires-clause-claims : goal.place_one-requires-clause-claims
place_one-requires-clause-claims c = subst (AreAllClaims (volume_of c.args.g.now) c.args.kept.now) (sym c.deref.ensures.value) c.in_ok-claims.ensures

pub returns-clause-placed : goal.returns-clause-placed
returns-clause-placed c =
    let v = volume_of c.args.g.now in
    let all : c.loop-ag.ag ≡ c.args.g.now.agcount = omega (arith, c.loop-ag-test.false, c.loop-ag.auto.ag-end) in
    subst (λ (n : ℕ). ArePlaced v c.args.kept.now c.args.reserved.now c.args.inodes.now n c.loop-ag.groups.items) all c.loop-ag.invariant.placed'

pub loop-ag-smaller : goal.loop-ag-smaller
loop-ag-smaller c = falls c.args.g.now.agcount c.loop-ag.ag c.loop-ag-test.true

pub returns-in_err-claims-clause-placed : goal.returns-in_err-claims-clause-placed
returns-in_err-claims-clause-placed c = IfOk-from_err c.from_residual.result _ c.from_residual.ensures.0

pub returns-in_err-claims-clause-pool : goal.returns-in_err-claims-clause-pool
returns-in_err-claims-clause-pool c = IfOk-from_err c.from_residual.result _ c.from_residual.ensures.0

pub returns-in_err-reach-clause-placed : goal.returns-in_err-reach-clause-placed
returns-in_err-reach-clause-placed c = IfOk-from_err c.from_residual-in_err-reach.result _ c.from_residual-in_err-reach.ensures.0

pub returns-in_err-reach-clause-pool : goal.returns-in_err-reach-clause-pool
returns-in_err-reach-clause-pool c = IfOk-from_err c.from_residual-in_err-reach.result _ c.from_residual-in_err-reach.ensures.0

pub returns-in_err-placed-clause-placed : goal.returns-in_err-placed-clause-placed
returns-in_err-placed-clause-placed c = IfOk-from_err c.from_residual-in_err-placed.result _ c.from_residual-in_err-placed.ensures.0

pub returns-in_err-placed-clause-pool : goal.returns-in_err-placed-clause-pool
returns-in_err-placed-clause-pool c = IfOk-from_err c.from_residual-in_err-placed.result _ c.from_residual-in_err-placed.ensures.0

pub returns-in_err-push-clause-placed : goal.returns-in_err-push-clause-placed
returns-in_err-push-clause-placed c = IfOk-from_err c.from_residual-in_err-push.result _ c.from_residual-in_err-push.ensures.0

pub returns-in_err-push-clause-pool : goal.returns-in_err-push-clause-pool
returns-in_err-push-clause-pool c = IfOk-from_err c.from_residual-in_err-push.result _ c.from_residual-in_err-push.ensures.0

pub returns-in_default-clause-placed : goal.returns-in_default-clause-placed
returns-in_default-clause-placed c = tt

pub returns-in_default-clause-pool : goal.returns-in_default-clause-pool
returns-in_default-clause-pool c = tt

pub returns-clause-cause : goal.returns-clause-cause
returns-clause-cause c = tt

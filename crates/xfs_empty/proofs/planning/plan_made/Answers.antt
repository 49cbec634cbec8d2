use Rattle.std.proofs.Common.{◌≡◌, ◌<◌, ◌⊎◌, sym, subst}
use Rattle.std.specs.Prelude.{All, IfErr, IfOk}
use Rattle.xfs_geom.specs.Volumes.{volume_of}
use Rattle.xfs_place.specs.Wanted.{CanBeKept, FindsNoRoom, kept_runs}
use Rattle.xfs_place.specs.declared.faults.Unplaced.{Unplaced}
use Rattle.xfs_place.specs.declared.faults.PlaceFault.{PlaceFault}
use Rattle.xfs_place.specs.declared.faults.PlaceFault.TheVariants.{NoMemory, NoRoom}
use Rattle.xfs_place.specs.declared.wanted.Wanted.{Wanted}
use Rattle.xfs_render.specs.Plans.{planned}
use Rattle.xfs_render.specs.Readiness.{HasBytes, IsWritable}
use Rattle.xfs_render.specs.declared.plan.Plan.{Plan}
use Rattle.xfs_empty.specs.Placing.{empty_wanted}
use Rattle.xfs_empty.specs.Planning.{HasRoom, IsEmptyPlan, IsPlanFor}
use Rattle.xfs_empty.proofs.Kept.{chunk_kept}
use Rattle.xfs_empty.proofs.Ready.{has_bytes, writable}
use Rattle.xfs_empty.proofs.Results.{ok_as}
use Rattle.xfs_empty.proofs.planning.plan_made.Goals as goal

pub plan_wanted-planned-requires-clause-kept : goal.plan_wanted-planned-requires-clause-kept
plan_wanted-planned-requires-clause-kept g c = λ κs lives.
    subst (λ (w : Wanted). CanBeKept (volume_of w.geometry) (kept_runs w)) (sym c.requires.wanted)
    (chunk_kept (volume_of c.args.g.now) c.args.g.now.shape.groups c.requires.chunk)

pub plan_wanted-planned-requires-clause-writable : goal.plan_wanted-planned-requires-clause-writable
plan_wanted-planned-requires-clause-writable g c = λ κs lives.
    subst (λ (w : Wanted). IsWritable w) (sym c.requires.wanted) (writable c.args.g.now c.requires.chunk)

pub plan_wanted-planned-requires-clause-held : goal.plan_wanted-planned-requires-clause-held
plan_wanted-planned-requires-clause-held g c = λ κs lives.
    subst (λ (w : Wanted). HasBytes w c.in-Ok.bytes) (sym c.requires.wanted)
    (has_bytes c.args.g.now c.args.sector.now c.args.stamp.now c.in-Ok.bytes c.in-Ok.ensures c.requires.accepted c.requires.states)

pub returns-in-Ok-clause-rendered : goal.returns-in-Ok-clause-rendered
returns-in-Ok-clause-rendered g c =
    ok_as (IsPlanFor (empty_wanted c.args.g.now) c.in-Ok.bytes) (IsEmptyPlan c.args.g.now c.args.sector.now c.args.stamp.now) c.plan_wanted-planned.result
    (λ plan is. record { bytes = c.in-Ok.bytes; made = c.in-Ok.ensures; is = is })
    (subst (λ (w : Wanted). IfOk c.plan_wanted-planned.result (IsPlanFor w c.in-Ok.bytes)) c.requires.wanted c.plan_wanted-planned.ensures.rendered)

pub returns-in-Ok-clause-inside : goal.returns-in-Ok-clause-inside
returns-in-Ok-clause-inside g c =
    subst (λ (w : Wanted). IfOk c.plan_wanted-planned.result (λ (plan : Plan). All (λ place. place < w.geometry.dblocks) (planned plan))) c.requires.wanted
    c.plan_wanted-planned.ensures.inside

pub returns-in-Ok-clause-room : goal.returns-in-Ok-clause-room
returns-in-Ok-clause-room g c =
    subst (λ (w : Wanted). IfOk c.plan_wanted-planned.result (λ (plan : Plan). HasRoom w)) c.requires.wanted c.plan_wanted-planned.ensures.room

pub returns-in-Ok-clause-cause : goal.returns-in-Ok-clause-cause
returns-in-Ok-clause-cause g c =
    subst
    (λ (w : Wanted). IfErr c.plan_wanted-planned.result (λ (fault : PlaceFault). (fault ≡ NoMemory) ⊎ ((what : Unplaced) × (fault ≡ NoRoom what) × FindsNoRoom w what)))
    c.requires.wanted c.plan_wanted-planned.ensures.cause

pub returns-in-Ok-clause-held : goal.returns-in-Ok-clause-held
returns-in-Ok-clause-held g c = c.plan_wanted-planned.ensures.held

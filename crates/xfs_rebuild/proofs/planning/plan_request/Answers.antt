use Rattle.std.proofs.Common.{◌≡◌, ℕ, ◌+◌, ◌≤◌, inl, inr, refl, sym, subst, ◌∙◌}
use Rattle.std.specs.List.{All}
use Rattle.xfs_disk.proofs.Reading.{reads_none}
use Rattle.xfs_rebuild.specs.Rebuilds.{ground}
use Rattle.xfs_rebuild.specs.Refusals.{IsRebuildCause, IsRefusedOn}
use Rattle.xfs_rebuild.specs.declared.faults.RebuildFault.TheVariants.{Names}
use Rattle.xfs_rebuild.proofs.Asked.{made_on, room_refused}
use Rattle.xfs_rebuild.proofs.Causes.{no_later}
use Rattle.xfs_rebuild.proofs.Grounds.{lie, low_root, slots_rise, wanted_bytes, wanted_fits, wanted_stands, wanted_written}
use Rattle.xfs_rebuild.proofs.Rebuilding.{hand_of, names_refused, none_change}
use Rattle.xfs_rebuild.proofs.planning.plan_request.Goals as goal

pub judge_names-requires : goal.judge_names-requires
judge_names-requires g c = record { low = low_root c.args.chosen.now.geometry }

pub plan_staying-requires-clause-inside : goal.plan_staying-requires-clause-inside
plan_staying-requires-clause-inside g c κs within = c.requires.inside

pub plan_staying-requires-clause-lie : goal.plan_staying-requires-clause-lie
plan_staying-requires-clause-lie g c κs within =
    let stays = none_change c.args.chosen.now.geometry.rootino c.args.kept c.as_slice.result.now c.in-Ok-Stay.field-0 c.in-Ok-Stay.clusters c.in-Ok-Stay.ensures c.in-Ok-Stay.field-0-is in
    subst (All (λ (cluster : ℕ). cluster + 4 ≤ c.args.chosen.now.geometry.dblocks)) (sym (c.as_slice-clusters.ensures ∙ stays.1))
    (lie c.args.chosen.now.geometry c.args.kept c.requires.found c.args.request.wanted.reserved)

pub plan_staying-requires-clause-order : goal.plan_staying-requires-clause-order
plan_staying-requires-clause-order g c κs within =
    let on = ground c.args.kept c.args.seen c.args.request.wanted.reserved c.args.log.now in
    slots_rise c.args.chosen.now.geometry c.args.stamp.now on c.args.request.wanted c.args.request.slots c.requires.found c.requires.asked.wanted' c.requires.asked.slots'

pub plan_staying-requires-clause-size : goal.plan_staying-requires-clause-size
plan_staying-requires-clause-size g c κs within =
    let on = ground c.args.kept c.args.seen c.args.request.wanted.reserved c.args.log.now in
    wanted_fits c.args.chosen.now.geometry c.args.stamp.now on c.args.request.wanted c.args.request.slots c.requires.found c.requires.asked.wanted' c.requires.asked.slots'
    (g.D.Disk.size c.args.disk.now) (g.D.Disk.size c.args.disk.now) refl c.requires.inside

pub plan_staying-requires-clause-stands : goal.plan_staying-requires-clause-stands
plan_staying-requires-clause-stands g c κs within =
    let on = ground c.args.kept c.args.seen c.args.request.wanted.reserved c.args.log.now in
    wanted_stands c.args.chosen.now.geometry c.args.stamp.now on c.args.request.wanted c.args.request.slots c.requires.found c.requires.asked.wanted' c.requires.asked.slots'

pub plan_staying-requires-clause-writable : goal.plan_staying-requires-clause-writable
plan_staying-requires-clause-writable g c κs within =
    let on = ground c.args.kept c.args.seen c.args.request.wanted.reserved c.args.log.now in
    wanted_written c.args.chosen.now.geometry c.args.stamp.now on c.args.request.wanted c.args.request.slots c.requires.found c.requires.asked.wanted' c.requires.asked.slots'

pub plan_staying-requires-clause-held : goal.plan_staying-requires-clause-held
plan_staying-requires-clause-held g c κs within = λ b hand.
    let on = ground c.args.kept c.args.seen c.args.request.wanted.reserved c.args.log.now in
    let stays = none_change c.args.chosen.now.geometry.rootino c.args.kept c.as_slice.result.now c.in-Ok-Stay.field-0 c.in-Ok-Stay.clusters c.in-Ok-Stay.ensures c.in-Ok-Stay.field-0-is in
    wanted_bytes c.args.chosen.now.geometry c.args.stamp.now on c.args.request.wanted c.args.request.slots c.requires.found c.requires.asked.wanted' c.requires.asked.slots'
    c.args.chosen.now.sector b c.requires.accepted c.requires.states
    (hand_of c.args.chosen.now.geometry c.args.chosen.now.sector c.args.stamp.now c.as_slice-clusters.result.now c.args.kept.clusters c.args.request.slots b
    (c.as_slice-clusters.ensures ∙ stays.1) hand)

pub returns-in-Ok-Stay : goal.returns-in-Ok-Stay
returns-in-Ok-Stay g c =
    let D = g.D.Disk in
    let on = ground c.args.kept c.args.seen c.args.request.wanted.reserved c.args.log.now in
    let planned = c.plan_staying.ensures in
    let stays = none_change c.args.chosen.now.geometry.rootino c.args.kept c.as_slice.result.now c.in-Ok-Stay.field-0 c.in-Ok-Stay.clusters c.in-Ok-Stay.ensures c.in-Ok-Stay.field-0-is in
    record {
      writable = planned.writable;
      planned =
          made_on c.args.chosen.now.geometry c.args.chosen.now.sector c.args.stamp.now on c.args.request c.as_slice.result.now c.requires.asked c.as_slice.ensures stays.0
          c.as_slice-clusters.result.now c.args.numbers.now (D.holds c.args.disk.now) c.plan_staying.result (c.as_slice-clusters.ensures ∙ stays.1) c.requires.numbers planned.made;
      refused =
          room_refused c.args.chosen.now.geometry c.args.chosen.now.sector c.args.stamp.now on c.args.request c.as_slice.result.now c.requires.asked c.as_slice.ensures stays.0
          c.plan_staying.result planned.refused;
      cause = planned.cause;
      disk = planned.disk;
    }

pub returns-in-Ok-Change : goal.returns-in-Ok-Change
returns-in-Ok-Change g c =
    let D = g.D.Disk in
    let on = ground c.args.kept c.args.seen c.args.request.wanted.reserved c.args.log.now in
    let asked = c.requires.asked in
    let of = IsRefusedOn c.args.chosen.now.geometry c.args.stamp.now on in
    let caused = IsRebuildCause (D.faults c.args.disk.now) (D.faults c.args.disk.now) in
    let refused : of (Names c.names_due.result) =
    names_refused c.args.chosen.now.geometry c.args.stamp.now on c.args.request.wanted c.args.request.slots c.as_slice.result.now
    c.in-Ok-Change.field-0 c.in-Ok-Change.names c.names_due.result asked.wanted' asked.slots' c.as_slice.ensures c.in-Ok-Change.ensures c.in-Ok-Change.field-0-is c.names_due.ensures in
    record {
      writable = tt;
      planned = tt;
      refused = elim c.names_fault.ensures [
        | inl is ↦ subst of (sym is) refused
        | inr is ↦ subst of (sym is) tt
      ];
      cause = elim c.names_fault.ensures [
        | inl is ↦ subst caused (sym is) (no_later (D.faults c.args.disk.now))
        | inr is ↦ subst caused (sym is) (no_later (D.faults c.args.disk.now))
      ];
      disk = reads_none D.size D.holds D.write_faults D.writes D.tells_stops D.moment D.may_leave D.left_since c.args.disk.now;
    }

pub returns-in-Err : goal.returns-in-Err
returns-in-Err g c =
    let D = g.D.Disk in
    record {
      writable = tt;
      planned = tt;
      refused = tt;
      cause = no_later (D.faults c.args.disk.now);
      disk = reads_none D.size D.holds D.write_faults D.writes D.tells_stops D.moment D.may_leave D.left_since c.args.disk.now;
    }

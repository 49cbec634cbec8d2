use Rattle.std.proofs.Common.{ℕ, ◌≤◌, Option, sym, subst}
use Rattle.std.specs.Prelude.{IfOk}
use Rattle.xfs_disk.proofs.Reading.{reads_on}
use Rattle.xfs_rebuild.proofs.Causes.{caused_since}
use Rattle.xfs_rebuild.proofs.Asked.{made_of, writable_before}
use Rattle.xfs_rebuild.proofs.Rebuilding.{read_refused_place}
use Rattle.xfs_rebuild.proofs.planning.plan_staying.Goals as goal

pub gather_bytes-requires : goal.gather_bytes-requires
gather_bytes-requires g c = record { inside = c.requires.inside; lie = c.requires.lie; order = c.requires.order }

pub plan_wanted-planned-requires-clause-inside : goal.plan_wanted-planned-requires-clause-inside
plan_wanted-planned-requires-clause-inside g c κs within =
    subst (λ (size : ℕ). c.args.request.wanted.geometry.dblocks ≤ size) (sym c.in-Ok.ensures.disk.same_size) c.requires.size

pub plan_wanted-planned-requires-clause-stands : goal.plan_wanted-planned-requires-clause-stands
plan_wanted-planned-requires-clause-stands g c κs within = c.requires.stands

pub plan_wanted-planned-requires-clause-writable : goal.plan_wanted-planned-requires-clause-writable
plan_wanted-planned-requires-clause-writable g c κs within = c.requires.writable

pub plan_wanted-planned-requires-clause-held : goal.plan_wanted-planned-requires-clause-held
plan_wanted-planned-requires-clause-held g c κs within = c.requires.held c.in-Ok.bytes c.in-Ok.ensures.at_hand

pub returns-in-Ok : goal.returns-in-Ok
returns-in-Ok g c =
    let D = g.D.Disk in
    let read = c.in-Ok.ensures in
    let planned = c.plan_wanted-planned.ensures in
    record {
      writable = writable_before c.plan_wanted-planned.result (D.size c.args.disk.now) (D.size c.gather_bytes.new.disk) read.disk.same_size planned.writable;
      made =
          made_of c.args.chosen.now.geometry c.args.chosen.now.sector c.args.stamp.now c.args.clusters.now c.args.numbers.now c.args.request c.args.log.now c.in-Ok.bytes
          (D.holds c.args.disk.now) (D.holds c.gather_bytes.new.disk) c.plan_wanted-planned.result read.disk.same_contents read.at_hand read.read planned.planned planned.kept planned.cleared;
      refused = planned.refused;
      cause = caused_since (D.faults c.args.disk.now) (D.faults c.gather_bytes.new.disk) (D.faults c.plan_wanted-planned.new.disk) c.plan_wanted-planned.result read.cause planned.cause;
      disk = reads_on D.size D.holds D.write_faults D.writes D.tells_stops D.moment D.may_leave D.left_since c.args.disk.now c.gather_bytes.new.disk c.plan_wanted-planned.new.disk read.disk planned.disk;
    }

pub returns-in-Err : goal.returns-in-Err
returns-in-Err g c =
    let failed = c.in-Err.ensures in
    record {
      writable = tt;
      made = tt;
      refused = read_refused_place c.args.request.wanted c.in-Err.fault failed.refused;
      cause = failed.cause;
      disk = failed.disk;
    }

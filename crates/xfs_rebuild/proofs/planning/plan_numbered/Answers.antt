use Rattle.std.proofs.Common.{ℕ, List, Option, sym, subst}
use Rattle.std.specs.Prelude.{IfErr, IfOk}
use Rattle.std.specs.Option.{ForSome}
use Rattle.xfs_disk.proofs.Reading.{reads_none}
use Rattle.xfs_geom.specs.Volumes.{volume_of}
use Rattle.xfs_rebuild.specs.Rebuilds.{IsPlannedOn, ground}
use Rattle.xfs_rebuild.specs.Refusals.{IsRefusedOn}
use Rattle.xfs_rebuild.proofs.Causes.{no_later}
use Rattle.xfs_rebuild.proofs.Asked.{request_of, reserved_given}
use Rattle.xfs_rebuild.proofs.Grounds.{clusters_found, files_found, forks_found}
use Rattle.xfs_rebuild.proofs.planning.plan_numbered.Goals as goal

pub ask-requires-clause-files : goal.ask-requires-clause-files
ask-requires-clause-files g c = files_found (volume_of c.args.chosen.now.geometry) c.args.kept c.requires.found

pub ask-requires-clause-clusters : goal.ask-requires-clause-clusters
ask-requires-clause-clusters g c = clusters_found (volume_of c.args.chosen.now.geometry) c.args.kept c.requires.found

pub ask-requires-clause-forks : goal.ask-requires-clause-forks
ask-requires-clause-forks g c = forks_found (volume_of c.args.chosen.now.geometry) c.args.kept c.requires.found

pub plan_request-requires-clause-accepted : goal.plan_request-requires-clause-accepted
plan_request-requires-clause-accepted g c κs within = c.requires.accepted

pub plan_request-requires-clause-states : goal.plan_request-requires-clause-states
plan_request-requires-clause-states g c κs within = c.requires.states

pub plan_request-requires-clause-inside : goal.plan_request-requires-clause-inside
plan_request-requires-clause-inside g c κs within = c.requires.inside

pub plan_request-requires-clause-found : goal.plan_request-requires-clause-found
plan_request-requires-clause-found g c κs within = c.requires.found

pub plan_request-requires-clause-asked : goal.plan_request-requires-clause-asked
plan_request-requires-clause-asked g c κs within =
    let asked = c.in-Ok.ensures in
    request_of c.args.chosen.now.geometry c.args.stamp.now c.args.kept c.as_slice.result.now c.args.seen c.args.reserved c.args.log.now c.in-Ok.request
    c.as_slice.ensures asked.wanted asked.slots asked.kept asked.cleared

pub plan_request-requires-clause-numbers : goal.plan_request-requires-clause-numbers
plan_request-requires-clause-numbers g c κs within = c.requires.numbers

pub returns-in-Ok : goal.returns-in-Ok
returns-in-Ok g c =
    let D = g.D.Disk in
    let planned = c.plan_request.ensures in
    let given = reserved_given c.args.chosen.now.geometry c.args.kept c.args.reserved c.in-Ok.request.wanted c.in-Ok.ensures.wanted in
    record {
      writable = planned.writable;
      planned =
          subst (λ (blocks : List ℕ). IfOk c.plan_request.result (λ r. ForSome (D.holds c.args.disk.now) (λ image.
          IsPlannedOn c.args.chosen.now.geometry c.args.chosen.now.sector c.args.stamp.now image (ground c.args.kept c.args.seen blocks c.args.log.now) r))) given planned.planned;
      refused = subst (λ (blocks : List ℕ). IfErr c.plan_request.result (IsRefusedOn c.args.chosen.now.geometry c.args.stamp.now (ground c.args.kept c.args.seen blocks c.args.log.now))) given planned.refused;
      cause = planned.cause;
      disk = planned.disk;
    }

pub returns-in-Err : goal.returns-in-Err
returns-in-Err g c =
    let D = g.D.Disk in
    record {
      writable = tt;
      planned = tt;
      refused = tt;
      cause = no_later (D.faults c.args.disk.now);
      disk = reads_none D.size D.holds D.write_faults D.writes D.tells_stops D.moment D.may_leave D.left_since c.args.disk.now;
    }

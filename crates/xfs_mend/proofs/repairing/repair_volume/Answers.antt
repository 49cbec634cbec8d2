-- What is refused, and what comes of the rest.
use Rattle.std.proofs.Common.{◌≡◌, ◌≤◌, ℕ, Some, sym, ◌∙◌, subst}
use Rattle.xfs_geom.specs.Volumes.{volume_of}
use Rattle.xfs_mend.proofs.Deciding.{due_away}
use Rattle.xfs_mend.proofs.Ending.{ends_behind, ends_read, stops_behind, stops_read}
use Rattle.xfs_mend.proofs.Owing.{owed_as}
use Rattle.xfs_mend.proofs.Turning.{IsTurning, quiet_leaves, turning}
use Rattle.xfs_mend.specs.Asked.{repair_asked}
use Rattle.xfs_mend.specs.Due.{IsDueVolume, turned_away}
use Rattle.xfs_mend.specs.Outcome.{StopsBy}
use Rattle.xfs_mend.proofs.repairing.repair_volume.Goals as goal

pub repair_seen-requires-clause-inside : goal.repair_seen-requires-clause-inside
repair_seen-requires-clause-inside g c = λ κs lives. subst (λ (n : ℕ). c.args.chosen.now.geometry.dblocks ≤ n) (sym c.in-Ok.ensures.disk.same_size) c.requires.inside

pub repair_seen-requires-clause-elects : goal.repair_seen-requires-clause-elects
repair_seen-requires-clause-elects g c = λ κs lives image told. c.requires.elects image (sym c.in-Ok.ensures.disk.same_contents ∙ told)

pub repair_seen-requires-clause-admitted : goal.repair_seen-requires-clause-admitted
repair_seen-requires-clause-admitted g c = λ κs lives image told. (c.in-Ok.ensures.admitted image (sym c.in-Ok.ensures.disk.same_contents ∙ told)).0

pub repair_seen-requires-clause-evidence : goal.repair_seen-requires-clause-evidence
repair_seen-requires-clause-evidence g c = λ κs lives image told. (c.in-Ok.ensures.admitted image (sym c.in-Ok.ensures.disk.same_contents ∙ told)).1

pub returns-in-Ok : goal.returns-in-Ok
returns-in-Ok g c =
    let D = g.D.Disk in
    let disk = c.in-Ok.ensures.disk in
    let up : D.faults c.args.disk.now ≤ D.faults c.admit.new.disk = c.in-Ok.ensures.cause in
    let later = c.repair_seen.ensures in
    record {
      due = λ image told. later.due image (disk.same_contents ∙ told);
      leaves = λ image told. later.leaves image (disk.same_contents ∙ told);
      stops = λ tells image told t stopped low left.
          stops_behind D.size D.holds D.faults D.write_faults D.writes D.tells_stops D.moment D.may_leave D.left_since c.args.disk.now c.admit.new.disk c.repair_seen.new.disk t stopped (StopsBy c.args.stamp.now image c.repair_seen.result stopped) disk tells low
          (later.stops (disk.tells tells) image (disk.same_contents ∙ told) t stopped) left;
      possible = later.possible;
      ends = ends_behind D.size D.holds D.faults D.write_faults D.writes D.tells_stops D.moment D.may_leave D.left_since c.args.disk.now c.admit.new.disk c.repair_seen.new.disk c.repair_seen.result disk up later.ends;
    }

pub returns-in-Err : goal.returns-in-Err
returns-in-Err g c =
    let D = g.D.Disk in
    let o = repair_asked c.args.options.now in
    let geometry = c.args.chosen.now.geometry in
    let s = c.args.stamp.now in
    let old = c.args.disk.now in
    let new = c.admit.new.disk in
    let outcome = c.in-Err.outcome in
    let disk = c.in-Err.ensures.disk in
    let turn : IsTurning o (D.faults old) (D.faults new) (D.write_faults old) (D.write_faults new) outcome =
    turning o (D.faults old) (D.faults new) (D.write_faults old) (D.write_faults new) outcome c.in-Err.ensures.cause in
    record {
      due = λ image told. owed_as (λ due. turned_away o (volume_of geometry) image ≡ Some due) (IsDueVolume o geometry s image) outcome
          (λ due away. due_away o geometry s image due away) (c.in-Err.ensures.turned image told);
      leaves = λ image told. quiet_leaves s image (D.holds new) outcome turn.quiet (disk.same_contents ∙ told);
      stops = λ tells image told t stopped low left. stops_read D.size D.holds D.faults D.write_faults D.writes D.tells_stops D.moment D.may_leave D.left_since old new t stopped (StopsBy s image outcome stopped) disk tells low left;
      possible = turn.possible;
      ends = ends_read D.size D.holds D.faults D.write_faults D.writes D.tells_stops D.moment D.may_leave D.left_since old new outcome disk turn.up turn.quiet turn.cause;
    }

-- What is found, and what comes of it.
use Rattle.std.proofs.Common.{◌≤◌, ℕ, Some, None, refl, sym, ◌∙◌, subst}
use Rattle.xfs_mend.proofs.Deciding.{due_seen}
use Rattle.xfs_mend.proofs.Ending.{ends_behind, ends_read, stops_behind, stops_read}
use Rattle.xfs_mend.proofs.Owing.{owed_as}
use Rattle.xfs_mend.proofs.Turning.{IsTurning, fault_cause, fault_owed, quiet_leaves, turning}
use Rattle.xfs_mend.specs.Asked.{repair_asked}
use Rattle.xfs_mend.specs.Due.{IsDueFound, IsDueVolume, IsOwed}
use Rattle.xfs_mend.specs.Outcome.{StopsBy}
use Rattle.xfs_mend.specs.Private.Refusing.{IsTurnCause}
use Rattle.xfs_mend.specs.declared.outcome.Outcome.{Outcome}
use Rattle.xfs_mend.specs.declared.outcome.Outcome.TheVariants as out
use Rattle.xfs_mend.proofs.repairing.repair_seen.Goals as goal

pub answer_found-requires-clause-inside : goal.answer_found-requires-clause-inside
answer_found-requires-clause-inside g c = λ κs lives. subst (λ (n : ℕ). c.args.chosen.now.geometry.dblocks ≤ n) (sym c.in-Ok-Some.ensures.disk.same_size) c.requires.inside

pub answer_found-requires-clause-elects : goal.answer_found-requires-clause-elects
answer_found-requires-clause-elects g c = λ κs lives image told. c.requires.elects image (sym c.in-Ok-Some.ensures.disk.same_contents ∙ told)

pub answer_found-requires-clause-admitted : goal.answer_found-requires-clause-admitted
answer_found-requires-clause-admitted g c = λ κs lives image told. c.requires.admitted image (sym c.in-Ok-Some.ensures.disk.same_contents ∙ told)

pub answer_found-requires-clause-found : goal.answer_found-requires-clause-found
answer_found-requires-clause-found g c = λ κs lives image told. sym c.in-Ok-Some.field-0-is ∙ c.in-Ok-Some.ensures.found image (sym c.in-Ok-Some.ensures.disk.same_contents ∙ told)

pub answer_found-requires-clause-evidence : goal.answer_found-requires-clause-evidence
answer_found-requires-clause-evidence g c = λ κs lives image told. c.requires.evidence image (sym c.in-Ok-Some.ensures.disk.same_contents ∙ told)

pub returns-in-Ok-Some : goal.returns-in-Ok-Some
returns-in-Ok-Some g c =
    let D = g.D.Disk in
    let o = repair_asked c.args.options.now in
    let geometry = c.args.chosen.now.geometry in
    let s = c.args.stamp.now in
    let old = c.args.disk.now in
    let read = c.find_seen.new.disk in
    let disk = c.in-Ok-Some.ensures.disk in
    let up : D.faults old ≤ D.faults read = c.in-Ok-Some.ensures.cause in
    let later = c.answer_found.ensures in
    record {
      due = λ image told.
          owed_as (IsDueFound o geometry s image (Some c.in-Ok-Some.found)) (IsDueVolume o geometry s image) c.answer_found.result
          (λ outcome due. due_seen o geometry s image (Some c.in-Ok-Some.found) outcome (c.requires.admitted image told)
          (sym c.in-Ok-Some.field-0-is ∙ c.in-Ok-Some.ensures.found image told) due) (later.due image (disk.same_contents ∙ told));
      leaves = λ image told. later.leaves image (disk.same_contents ∙ told);
      stops = λ tells image told t stopped low left.
          stops_behind D.size D.holds D.faults D.write_faults D.writes D.tells_stops D.moment D.may_leave D.left_since old read c.answer_found.new.disk t stopped (StopsBy s image c.answer_found.result stopped) disk tells low
          (later.stops (disk.tells tells) image (disk.same_contents ∙ told) t stopped) left;
      possible = later.possible;
      ends = ends_behind D.size D.holds D.faults D.write_faults D.writes D.tells_stops D.moment D.may_leave D.left_since old read c.answer_found.new.disk c.answer_found.result disk up later.ends;
    }

pub returns-in-Ok-None : goal.returns-in-Ok-None
returns-in-Ok-None g c =
    let D = g.D.Disk in
    let o = repair_asked c.args.options.now in
    let geometry = c.args.chosen.now.geometry in
    let s = c.args.stamp.now in
    let old = c.args.disk.now in
    let read = c.find_seen.new.disk in
    let disk = c.in-Ok-None.ensures.disk in
    let up : D.faults old ≤ D.faults read = c.in-Ok-None.ensures.cause in
    record {
      due = λ image told. due_seen o geometry s image None out.Clean (c.requires.admitted image told) (sym c.in-Ok-None.field-0-is ∙ c.in-Ok-None.ensures.found image told) refl;
      leaves = λ image told. disk.same_contents ∙ told;
      stops = λ tells image told t stopped low left. stops_read D.size D.holds D.faults D.write_faults D.writes D.tells_stops D.moment D.may_leave D.left_since old read t stopped (StopsBy s image out.Clean stopped) disk tells low left;
      possible = tt;
      ends = ends_read D.size D.holds D.faults D.write_faults D.writes D.tells_stops D.moment D.may_leave D.left_since old read out.Clean disk up refl tt;
    }

pub returns-in-Err : goal.returns-in-Err
returns-in-Err g c =
    let D = g.D.Disk in
    let o = repair_asked c.args.options.now in
    let geometry = c.args.chosen.now.geometry in
    let s = c.args.stamp.now in
    let old = c.args.disk.now in
    let new = c.find_seen.new.disk in
    let fault = c.in-Err.fault in
    let outcome = c.answer_fault.result in
    let disk = c.in-Err.ensures.disk in
    let turn : IsTurning o (D.faults old) (D.faults new) (D.write_faults old) (D.write_faults new) outcome =
    turning o (D.faults old) (D.faults new) (D.write_faults old) (D.write_faults new) outcome
    (subst (λ (x : Outcome). IsTurnCause (D.faults old) (D.faults new) x) (sym c.answer_fault.ensures)
    (fault_cause Outcome (D.faults old) (D.faults new) fault c.in-Err.ensures.cause)) in
    record {
      due = λ image told. subst (λ (x : Outcome). IsOwed (IsDueVolume o geometry s image) x) (sym c.answer_fault.ensures) (fault_owed (IsDueVolume o geometry s image) (D.faults new) fault);
      leaves = λ image told. quiet_leaves s image (D.holds new) outcome turn.quiet (disk.same_contents ∙ told);
      stops = λ tells image told t stopped low left. stops_read D.size D.holds D.faults D.write_faults D.writes D.tells_stops D.moment D.may_leave D.left_since old new t stopped (StopsBy s image outcome stopped) disk tells low left;
      possible = turn.possible;
      ends = ends_read D.size D.holds D.faults D.write_faults D.writes D.tells_stops D.moment D.may_leave D.left_since old new outcome disk turn.up turn.quiet turn.cause;
    }

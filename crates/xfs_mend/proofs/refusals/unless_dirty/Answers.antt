-- The log stands in the way first.
use Rattle.std.proofs.Common.{◌≡◌, ◌≤◌, Some, sym, subst, arith}
use Rattle.xfs_geom.specs.Volumes.{volume_of}
use Rattle.xfs_mend.specs.Asked.{repair_asked}
use Rattle.xfs_mend.specs.Due.{turned_away}
use Rattle.xfs_mend.specs.Private.Refusing.{IsTurnCause, IsTurned}
use Rattle.xfs_mend.specs.declared.outcome.Outcome.{Outcome}
use Rattle.xfs_mend.proofs.Turning.{cause_first, fault_cause, fault_owed, turned_first}
use Rattle.xfs_mend.proofs.refusals.unless_dirty.Goals as goal

pub returns-in-Ok : goal.returns-in-Ok
returns-in-Ok g c =
    let D = g.D.Disk in
    let o = repair_asked c.args.options.now in
    let before = D.faults c.args.disk.now in
    let now = D.faults c.read_state.new.disk in
    let up : before ≤ now = c.in-Ok.ensures.cause in
    record {
      turned = λ image told. subst (λ (x : Outcome). IsTurned o c.args.g.now image x) (sym c.first_of.ensures)
          (turned_first o c.args.g.now image c.in-Ok.stands c.args.refusal (c.in-Ok.ensures.stands image told) (c.requires.refused image told) (c.requires.quiet 0 0 (omega arith)));
      cause = subst (λ (x : Outcome). IsTurnCause before now x) (sym c.first_of.ensures)
          (cause_first before now c.in-Ok.stands c.args.refusal up (c.requires.quiet before now up));
      disk = c.in-Ok.ensures.disk;
    }

pub returns-in-Err : goal.returns-in-Err
returns-in-Err g c =
    let D = g.D.Disk in
    let o = repair_asked c.args.options.now in
    let now = D.faults c.read_state.new.disk in
    let fault = c.in-Err.fault in
    record {
      turned = λ image told. subst (λ (x : Outcome). IsTurned o c.args.g.now image x) (sym c.answer_fault.ensures)
          (fault_owed (λ due. turned_away o (volume_of c.args.g.now) image ≡ Some due) now fault);
      cause = subst (λ (x : Outcome). IsTurnCause (D.faults c.args.disk.now) now x) (sym c.answer_fault.ensures)
          (fault_cause Outcome (D.faults c.args.disk.now) now fault c.in-Err.ensures.cause);
      disk = c.in-Err.ensures.disk;
    }

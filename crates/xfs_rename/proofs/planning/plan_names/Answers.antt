use Rattle.std.proofs.Common.{sym, subst}
use Rattle.xfs_disk.proofs.Reading.{reads_none}
use Rattle.xfs_rebuild.specs.Rebuilds.{HasNamesDue}
use Rattle.xfs_rebuild.specs.declared.names_due.NamesDue.{NamesDue}
use Rattle.xfs_rename.specs.Renames.{IsRenameRefused, IsSettling}
use Rattle.xfs_rename.proofs.Agreed.{room_cause}
use Rattle.xfs_rename.proofs.planning.plan_names.Goals as goal

pub settled-requires : goal.settled-requires
settled-requires g c = record { due = subst (HasNamesDue c.args.chosen.now.geometry c.args.stamp.now) (sym c.as_names.ensures) c.requires.due }

pub plan_renamed-requires-clause-accepted : goal.plan_renamed-requires-clause-accepted
plan_renamed-requires-clause-accepted g c κs within = c.requires.accepted

pub plan_renamed-requires-clause-states : goal.plan_renamed-requires-clause-states
plan_renamed-requires-clause-states g c κs within = c.requires.states

pub plan_renamed-requires-clause-inside : goal.plan_renamed-requires-clause-inside
plan_renamed-requires-clause-inside g c κs within = c.requires.inside

pub plan_renamed-requires-clause-due : goal.plan_renamed-requires-clause-due
plan_renamed-requires-clause-due g c κs within = c.requires.due

pub plan_renamed-requires-clause-settling : goal.plan_renamed-requires-clause-settling
plan_renamed-requires-clause-settling g c κs within =
    subst (λ (n : NamesDue). IsSettling c.args.chosen.now.geometry n c.in-Ok.settling) c.as_names.ensures c.in-Ok.ensures.settled

pub returns-in-Ok : goal.returns-in-Ok
returns-in-Ok g c =
    let planned = c.plan_renamed.ensures in
    record { writable = planned.writable; renamed = planned.renamed; refused = planned.refused; cause = planned.cause; disk = planned.disk }

pub returns-in-Err : goal.returns-in-Err
returns-in-Err g c =
    let D = g.D.Disk in
    record {
      writable = tt;
      renamed = tt;
      refused = subst (λ (n : NamesDue). IsRenameRefused c.args.chosen.now.geometry n c.in-Err.fault) c.as_names.ensures c.in-Err.ensures.refused;
      cause = room_cause (D.faults c.args.disk.now) c.in-Err.fault c.in-Err.ensures.cause;
      disk = reads_none D.size D.holds D.write_faults D.writes D.tells_stops D.moment D.may_leave D.left_since c.args.disk.now;
    }

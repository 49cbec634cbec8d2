use Rattle.std.proofs.Common.{ℕ}
use Rattle.xfs_disk.proofs.Reading.{reads_none}
use Rattle.xfs_rename.specs.Renames.{IsAskedFor}
use Rattle.xfs_rename.proofs.Agreed.{no_later}
use Rattle.xfs_rename.proofs.planning.plan_settled.Goals as goal

pub ask_settled-requires-clause-due : goal.ask_settled-requires-clause-due
ask_settled-requires-clause-due g c = c.requires.due

pub ask_settled-requires-clause-settling : goal.ask_settled-requires-clause-settling
ask_settled-requires-clause-settling g c = c.requires.settling

pub plan_asked-planned-requires-clause-accepted : goal.plan_asked-planned-requires-clause-accepted
plan_asked-planned-requires-clause-accepted g c κs within = c.requires.accepted

pub plan_asked-planned-requires-clause-states : goal.plan_asked-planned-requires-clause-states
plan_asked-planned-requires-clause-states g c κs within = c.requires.states

pub plan_asked-planned-requires-clause-inside : goal.plan_asked-planned-requires-clause-inside
plan_asked-planned-requires-clause-inside g c κs within = c.requires.inside

pub plan_asked-planned-requires-clause-asked : goal.plan_asked-planned-requires-clause-asked
plan_asked-planned-requires-clause-asked g c κs within = (
  c.args.due,
  record {
    due = c.requires.due;
    settling = c.requires.settling;
    wanted' = c.in-Ok.ensures.wanted;
    kept' = c.in-Ok.ensures.kept;
    slots' = c.in-Ok.ensures.slots;
    seen' = c.in-Ok.ensures.seen;
    log' = c.in-Ok.ensures.log;
  },
)

pub returns-in-Ok : goal.returns-in-Ok
returns-in-Ok g c =
    let planned = c.plan_asked-planned.ensures in
    let is : IsAskedFor c.args.chosen.now.geometry c.args.stamp.now c.args.due c.args.settling.now c.in-Ok.asked = record {
      due = c.requires.due;
      settling = c.requires.settling;
      wanted' = c.in-Ok.ensures.wanted;
      kept' = c.in-Ok.ensures.kept;
      slots' = c.in-Ok.ensures.slots;
      seen' = c.in-Ok.ensures.seen;
      log' = c.in-Ok.ensures.log;
    } in
    record {
      writable = planned.writable;
      renamed = planned.renamed c.args.due is;
      refused = planned.refused c.args.due is;
      cause = planned.cause;
      disk = planned.disk;
    }

pub returns-in-Err : goal.returns-in-Err
returns-in-Err g c =
    let D = g.D.Disk in
    record {
      writable = tt;
      renamed = tt;
      refused = tt;
      cause = no_later (D.faults c.args.disk.now);
      disk = reads_none D.size D.holds D.write_faults D.writes D.tells_stops D.moment D.may_leave D.left_since c.args.disk.now;
    }

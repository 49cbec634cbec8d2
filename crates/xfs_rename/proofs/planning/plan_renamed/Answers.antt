use Rattle.xfs_rename.proofs.planning.plan_renamed.Goals as goal

pub plan_settled-requires-clause-accepted : goal.plan_settled-requires-clause-accepted
plan_settled-requires-clause-accepted g c κs within = c.requires.accepted

pub plan_settled-requires-clause-states : goal.plan_settled-requires-clause-states
plan_settled-requires-clause-states g c κs within = c.requires.states

pub plan_settled-requires-clause-inside : goal.plan_settled-requires-clause-inside
plan_settled-requires-clause-inside g c κs within = c.requires.inside

pub plan_settled-requires-clause-due : goal.plan_settled-requires-clause-due
plan_settled-requires-clause-due g c κs within = c.requires.due

pub plan_settled-requires-clause-settling : goal.plan_settled-requires-clause-settling
plan_settled-requires-clause-settling g c κs within = c.requires.settling

pub returns-in-Ok : goal.returns-in-Ok
returns-in-Ok g c =
    let planned = c.in-Ok.ensures in
    record { writable = planned.writable; renamed = planned.renamed; refused = tt; cause = planned.cause; disk = planned.disk }

pub returns-in-Err : goal.returns-in-Err
returns-in-Err g c =
    let failed = c.in-Err.ensures in
    record { writable = tt; renamed = tt; refused = failed.refused; cause = failed.cause; disk = failed.disk }

use Rattle.xfs_empty.proofs.planning.plan_empty.Goals as goal

pub plan_made-planned-requires-clause-accepted : goal.plan_made-planned-requires-clause-accepted
plan_made-planned-requires-clause-accepted g c = λ κs lives. c.requires.accepted

pub plan_made-planned-requires-clause-states : goal.plan_made-planned-requires-clause-states
plan_made-planned-requires-clause-states g c = λ κs lives. c.requires.states

pub plan_made-planned-requires-clause-chunk : goal.plan_made-planned-requires-clause-chunk
plan_made-planned-requires-clause-chunk g c = λ κs lives. c.requires.chunk

pub plan_made-planned-requires-clause-wanted : goal.plan_made-planned-requires-clause-wanted
plan_made-planned-requires-clause-wanted g c = λ κs lives. c.in-Ok.ensures

pub returns-in-Ok : goal.returns-in-Ok
returns-in-Ok g c =
    let done = c.plan_made-planned.ensures in
    record { rendered = done.rendered; inside = done.inside; held = done.held; room = done.room; cause = done.cause }

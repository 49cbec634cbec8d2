use Rattle.xfs_forest.proofs.reading.read_planted.Goals as goal

pub returns-in-Ok-finish_all-clause-read : goal.returns-in-Ok-finish_all-clause-read
returns-in-Ok-finish_all-clause-read g c = λ image told growing. c.in-Ok-finish_all.ensures image (c.in-Ok.ensures.grows image told growing)

pub returns-in-Err : goal.returns-in-Err
returns-in-Err g c = record { read = tt; cause = c.in-Err.ensures.cause; disk = c.in-Err.ensures.disk; reads = c.in-Err.ensures.reads }

pub returns-in-Err-finish_all : goal.returns-in-Err-finish_all
returns-in-Err-finish_all g c = record { read = tt; cause = c.in-Ok.ensures.cause; disk = c.in-Ok.ensures.disk; reads = c.in-Ok.ensures.reads }

pub finish_all-requires-clause-done : goal.finish_all-requires-clause-done
finish_all-requires-clause-done g c = λ κs lives. c.in-Ok.ensures.done

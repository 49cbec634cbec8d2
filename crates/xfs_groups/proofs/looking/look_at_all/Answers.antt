use Rattle.xfs_groups.proofs.looking.look_at_all.Goals as goal

pub returns-in-Ok : goal.returns-in-Ok
returns-in-Ok g c = record {
  whole = λ image told. c.has_whole_seal.ensures image (c.in-Ok.ensures.bytes image told);
  cause = c.in-Ok.ensures.cause;
  disk = c.in-Ok.ensures.disk;
  reads = c.in-Ok.ensures.reads;
}

pub returns-in-Err : goal.returns-in-Err
returns-in-Err g c = record { whole = tt; cause = c.in-Err.ensures.cause; disk = c.in-Err.ensures.disk; reads = c.in-Err.ensures.reads }

use Rattle.std.proofs.Common.{arith}
use Rattle.xfs_groups.proofs.looking.look.Goals as goal

pub returns-in-Ok : goal.returns-in-Ok
returns-in-Ok g c = record {
  seen = λ image told. c.seen.ensures image (c.in-Ok.ensures.bytes image told);
  cause = c.in-Ok.ensures.cause;
  disk = c.in-Ok.ensures.disk;
  reads = omega arith;
  ticks = c.in-Ok.ensures.ticks;
}

pub returns-in-Err : goal.returns-in-Err
returns-in-Err g c = record { seen = tt; cause = c.in-Err.ensures.cause; disk = c.in-Err.ensures.disk; reads = omega arith; ticks = c.in-Err.ensures.ticks }

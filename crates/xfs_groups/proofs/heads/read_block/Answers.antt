use Rattle.std.proofs.Common.{[], ◌∙◌, arith}
use Rattle.std.proofs.lemmas.Option.{get_or_from_slice_get}
use Rattle.xfs_groups.proofs.heads.read_block.Goals as goal

pub returns-in-Ok : goal.returns-in-Ok
returns-in-Ok g c = record {
  bytes = λ image told. get_or_from_slice_get image c.args.place c.read.new.into [] (c.in-Ok.ensures.bytes image told);
  whole = c.read.auto.into ∙ c.requires.block;
  cause = c.in-Ok.ensures.cause;
  disk = record {
    same_size = c.in-Ok.ensures.size;
    same_contents = c.in-Ok.ensures.holds;
    same_write_faults = c.in-Ok.ensures.write_faults;
    same_writes = c.in-Ok.ensures.writes;
    tells = c.in-Ok.ensures.tells;
    leaves = c.in-Ok.ensures.stops;
    past = c.in-Ok.ensures.past;
  };
  reads = let more = c.in-Ok.ensures.reads in let step = c.tick.ensures in omega (arith, more, step);
  ticks = c.tick.ensures;
}

pub returns-in-Err : goal.returns-in-Err
returns-in-Err g c = record {
  bytes = tt;
  whole = c.read.auto.into ∙ c.requires.block;
  cause = c.in-Err.ensures.cause;
  disk = record {
    same_size = c.in-Err.ensures.size;
    same_contents = c.in-Err.ensures.holds;
    same_write_faults = c.in-Err.ensures.write_faults;
    same_writes = c.in-Err.ensures.writes;
    tells = c.in-Err.ensures.tells;
    leaves = c.in-Err.ensures.stops;
    past = c.in-Err.ensures.past;
  };
  reads = let more = c.in-Err.ensures.reads in let step = c.tick.ensures in omega (arith, more, step);
  ticks = c.tick.ensures;
}

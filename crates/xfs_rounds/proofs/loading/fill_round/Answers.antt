use Rattle.std.proofs.Common.{◌+◌, length, sym, ◌∙◌, arith, take_all}
use Rattle.xfs_rounds.proofs.loading.fill_round.Goals as goal

pub fill-requires-clause-inside : goal.fill-requires-clause-inside
fill-requires-clause-inside g c = c.requires.inside

pub fill-requires-clause-room : goal.fill-requires-clause-room
fill-requires-clause-room g c = let long = c.requires.room in omega (arith, long)

pub returns-in-Ok : goal.returns-in-Ok
returns-in-Ok g c =
    record {
      size = c.in-Ok.ensures.len ∙ c.requires.room;
      held = λ image told.
          let long = c.in-Ok.ensures.len ∙ c.requires.room in
          sym (take_all (length c.args.round.now) c.fill.new.self (omega (arith, long))) ∙ c.in-Ok.ensures.filled.first image told;
      cause = c.in-Ok.ensures.cause;
      disk = c.in-Ok.ensures.disk;
      reads = let more = c.in-Ok.ensures.reads in let step = c.tick_often.ensures in omega (arith, more, step);
    }

pub returns-in-Err : goal.returns-in-Err
returns-in-Err g c =
    record {
      size = tt;
      held = tt;
      cause = c.in-Err.ensures.cause;
      disk = c.in-Err.ensures.disk;
      reads = let more = c.in-Err.ensures.reads in let step = c.tick_often.ensures in omega (arith, more, step);
    }

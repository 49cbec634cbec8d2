use Rattle.std.proofs.Common.{ℕ, List, ap, ◌∙◌, ◌/◌, ◌^◌, ◌==◌, arith}
use Rattle.xfs_disk.specs.Blocks.{bytes_of_block}
use Rattle.xfs_word.specs.Field.{field_of}
use Rattle.xfs_groups.proofs.Fronts.{first_number}
use Rattle.xfs_groups.proofs.looking.begins_as_slot.Goals as goal

pub returns-in-Ok : goal.returns-in-Ok
returns-in-Ok g c = record {
  begins = λ image told.
      c.is_slot_block.ensures
      ∙ ap (λ (n : ℕ). n / 2 ^ 16 == 0x494e)
      (ap (λ (xs : List ℕ). field_of xs 0 4) (c.in-Ok.ensures.bytes image told) ∙ first_number (bytes_of_block image c.args.place));
  cause = c.in-Ok.ensures.cause;
  disk = record {
    same_size = c.in-Ok.ensures.size;
    same_contents = c.in-Ok.ensures.holds;
    same_write_faults = c.in-Ok.ensures.write_faults;
    same_writes = c.in-Ok.ensures.writes;
    tells = c.in-Ok.ensures.tells;
    leaves = c.in-Ok.ensures.stops;
    past = c.in-Ok.ensures.past;
  };
  reads = let more = c.in-Ok.ensures.reads in let step = c.tick.ensures in omega (arith, more, step);
}

pub returns-in-Err : goal.returns-in-Err
returns-in-Err g c = record {
  begins = tt;
  cause = c.in-Err.ensures.cause;
  disk = record {
    same_size = c.in-Err.ensures.size;
    same_contents = c.in-Err.ensures.holds;
    same_write_faults = c.in-Err.ensures.write_faults;
    same_writes = c.in-Err.ensures.writes;
    tells = c.in-Err.ensures.tells;
    leaves = c.in-Err.ensures.stops;
    past = c.in-Err.ensures.past;
  };
  reads = let more = c.in-Err.ensures.reads in let step = c.tick.ensures in omega (arith, more, step);
}

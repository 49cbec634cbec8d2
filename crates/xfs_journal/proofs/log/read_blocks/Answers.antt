use Rattle.std.proofs.Common.{ℕ, ◌/◌, length, subst, arith}
use Rattle.xfs_disk.specs.Blocks.{AreBlocksFrom}
use Rattle.xfs_journal.proofs.log.read_blocks.Goals as goal

pub log_block-requires : goal.log_block-requires
log_block-requires g c = c.requires.some

pub read_run-requires-clause-inside : goal.read_run-requires-clause-inside
read_run-requires-clause-inside g c =
    let place = c.log_block.ensures in
    let value = place.value in
    let end = place.inside in
    omega (arith, value, end, c.requires.inside, c.requires.log)

pub read_run-requires-clause-whole : goal.read_run-requires-clause-whole
read_run-requires-clause-whole g c = c.requires.whole

pub read_run-requires-clause-numbers : goal.read_run-requires-clause-numbers
read_run-requires-clause-numbers g c =
    let place = c.log_block.ensures in
    let value = place.value in
    let end = place.inside in
    let number = place.number in
    omega (arith, value, end, number, c.requires.log)

pub returns-in-Ok : goal.returns-in-Ok
returns-in-Ok g c =
    let read = c.in-Ok.ensures in
    record {
      bytes = λ image told. subst (λ (at : ℕ). AreBlocksFrom image at (length c.args.run.now / 4096) c.read_run.new.into) c.log_block.ensures.value (read.bytes image told);
      cause = read.cause;
      disk = record { same_size = read.size; same_contents = read.holds; same_write_faults = read.write_faults; same_writes = read.writes; tells = read.tells; leaves = read.stops; past = read.past };
      ticks = c.tick_often.ensures;
      reads = read.reads;
    }

pub returns-in-Err : goal.returns-in-Err
returns-in-Err g c =
    let read = c.in-Err.ensures in
    record {
      bytes = tt;
      cause = read.cause;
      disk = record { same_size = read.size; same_contents = read.holds; same_write_faults = read.write_faults; same_writes = read.writes; tells = read.tells; leaves = read.stops; past = read.past };
      ticks = c.tick_often.ensures;
      reads = read.reads;
    }

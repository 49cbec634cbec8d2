use Rattle.std.proofs.Common.{◌≡◌, ℕ, ◌<◌, [], Option, IfSome, sym, subst, ◌∙◌, arith}
use Rattle.std.proofs.lemmas.Option.{get_or_from_slice_get}
use Rattle.xfs_disk.proofs.Reading.{reads_none}
use Rattle.xfs_disk.specs.Blocks.{bytes_of_block}
use Rattle.xfs_inode.proofs.file_reading.read_named.Goals as goal

pub read-requires-clause-inside : goal.read-requires-clause-inside
read-requires-clause-inside g c =
    let below = subst (λ (o : Option ℕ). IfSome o (λ place. place < c.args.g.now.dblocks)) c.in-Some.is c.requires.named in
    omega (arith, below, c.requires.inside)

pub read-requires-clause-whole : goal.read-requires-clause-whole
read-requires-clause-whole g c = c.requires.block

pub returns-in-None : goal.returns-in-None
returns-in-None g c =
    let D = g.D.Disk in
    record {
      bytes = λ image told. subst (λ (o : Option ℕ). IfSome o (λ place. bytes_of_block image place ≡ c.args.block.now)) (sym c.in-None.is) tt;
      whole = c.requires.block;
      cause = omega arith;
      disk = reads_none D.size D.holds D.write_faults D.writes D.tells_stops D.moment D.may_leave D.left_since c.args.disk.now;
      reads = omega arith;
      ticks = omega arith;
    }

pub returns-in-Ok : goal.returns-in-Ok
returns-in-Ok g c =
    record {
      bytes = λ image told. subst (λ (o : Option ℕ). IfSome o (λ place. bytes_of_block image place ≡ c.read.new.into)) (sym c.in-Some.is)
          (get_or_from_slice_get image c.in-Some.place c.read.new.into [] (c.in-Ok.ensures.bytes image told));
      whole = c.read.auto.into ∙ c.requires.block;
      cause = c.in-Ok.ensures.cause;
      disk = record {
        same_size = c.in-Ok.ensures.size;
        same_contents = c.in-Ok.ensures.holds;
        same_write_faults = c.in-Ok.ensures.write_faults;
        same_writes = c.in-Ok.ensures.writes;
        tells = c.in-Ok.ensures.tells;
        leaves = c.in-Ok.ensures.stops;
        past = c.in-Ok.ensures.past;
      };
      reads = let more = c.in-Ok.ensures.reads in let step = c.tick.ensures in omega (arith, more, step);
      ticks = let step = c.tick.ensures in omega (arith, step);
    }

pub returns-in-Err : goal.returns-in-Err
returns-in-Err g c =
    record {
      bytes = tt;
      whole = c.read.auto.into ∙ c.requires.block;
      cause = c.in-Err.ensures.cause;
      disk = record {
        same_size = c.in-Err.ensures.size;
        same_contents = c.in-Err.ensures.holds;
        same_write_faults = c.in-Err.ensures.write_faults;
        same_writes = c.in-Err.ensures.writes;
        tells = c.in-Err.ensures.tells;
        leaves = c.in-Err.ensures.stops;
        past = c.in-Err.ensures.past;
      };
      reads = let more = c.in-Err.ensures.reads in let step = c.tick.ensures in omega (arith, more, step);
      ticks = let step = c.tick.ensures in omega (arith, step);
    }

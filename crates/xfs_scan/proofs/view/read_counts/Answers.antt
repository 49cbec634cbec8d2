use Rattle.std.proofs.Common.{◌≡◌, ℕ, List, sym, ap, ◌∙◌}
use Rattle.xfs_word.specs.Field.{field_of}
use Rattle.xfs_disk.specs.Blocks.{bytes_of_block}
use Rattle.xfs_slots.proofs.Rests.{read_bytes}
use Rattle.xfs_scan.proofs.Counts.{counted_none, counted_once}
use Rattle.xfs_scan.proofs.view.read_counts.Goals as goal

pub returns-in-Ok : goal.returns-in-Ok
returns-in-Ok g c =
    let D = g.D.Disk in
    record {
      counts = λ image told.
          let bytes : c.read.new.into ≡ bytes_of_block image 0 = sym (read_bytes image 0 c.read.new.into (c.in-Ok.ensures.bytes image told)) in
          λ i. record {
            icount = (c.get64.ensures ∙ ap (λ (block : List ℕ). field_of block 128 8) bytes) i;
            ifree = (c.get64-in-Ok.ensures ∙ ap (λ (block : List ℕ). field_of block 136 8) bytes) i;
            fdblocks = (c.get64-in-Ok-2.ensures ∙ ap (λ (block : List ℕ). field_of block 144 8) bytes) i;
          };
      cause = c.in-Ok.ensures.cause;
      disk = record {
        same_size = c.in-Ok.ensures.size;
        same_contents = c.in-Ok.ensures.holds;
        same_write_faults = c.in-Ok.ensures.write_faults;
        same_writes = c.in-Ok.ensures.writes;
        tells = c.in-Ok.ensures.tells;
        leaves = c.in-Ok.ensures.stops;
        past = c.in-Ok.ensures.past;
      };
      reads = counted_once (D.reads c.args.disk.now) (D.reads c.read.new.self) c.args.steps.now c.tick.new.self c.in-Ok.ensures.reads c.tick.ensures;
      ticks = c.tick.ensures;
    }

pub returns-in-Err : goal.returns-in-Err
returns-in-Err g c =
    let D = g.D.Disk in
    record {
      counts = tt;
      cause = c.in-Err.ensures.cause;
      disk = record {
        same_size = c.in-Err.ensures.size;
        same_contents = c.in-Err.ensures.holds;
        same_write_faults = c.in-Err.ensures.write_faults;
        same_writes = c.in-Err.ensures.writes;
        tells = c.in-Err.ensures.tells;
        leaves = c.in-Err.ensures.stops;
        past = c.in-Err.ensures.past;
      };
      reads = counted_none (D.reads c.args.disk.now) (D.reads c.read.new.self) c.args.steps.now c.tick.new.self c.in-Err.ensures.reads c.tick.ensures;
      ticks = c.tick.ensures;
    }

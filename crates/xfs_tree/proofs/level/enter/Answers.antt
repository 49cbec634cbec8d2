use Rattle.std.proofs.Common.{◌≡◌, ℕ, ◌+◌, ◌≤◌, ◌<◌, List, [], Option, None, ◌∙◌, ap, arith}
use Rattle.std.proofs.lemmas.Option.{get_or_from_slice_get}
use Rattle.xfs_geom.specs.Volumes.{volume_of}
use Rattle.xfs_tree.specs.Reading.{at_block}
use Rattle.xfs_disk.specs.Blocks.{bytes_of_block}
use Rattle.xfs_disk.specs.Counts.{raised}
use Rattle.xfs_tree.specs.Rules.{block_fault}
use Rattle.xfs_disk.proofs.Reading.{reads_none}
use Rattle.xfs_tree.proofs.Judged.{place_judged, bytes_judged}
use Rattle.xfs_tree.proofs.level.enter.Goals as goal

-- as many reads as steps
as_many : (reads steps : ℕ) → reads + steps ≤ reads + steps
as_many reads steps = omega arith

one_more : (reads reads' steps steps' : ℕ) → reads' ≡ raised reads → steps' ≡ steps + 1 → reads' + steps ≤ reads + steps'
one_more reads reads' steps steps' read counted = omega (arith, read, counted)

none_more : (reads reads' steps steps' : ℕ) → reads' ≡ reads → steps' ≡ steps + 1 → reads' + steps ≤ reads + steps'
none_more reads reads' steps steps' read counted = omega (arith, read, counted)

no_step : (steps : ℕ) → steps ≤ steps + 1
no_step steps = omega arith

one_step : (steps steps' : ℕ) → steps' ≡ steps + 1 → steps' ≤ steps + 1
one_step steps steps' counted = omega (arith, counted)

same : (n : ℕ) → n ≤ n
same n = omega arith

within : (place blocks size : ℕ) → place < blocks → blocks ≤ size → place < size
within place blocks size below all = omega (arith, below, all)

pub read-requires-clause-inside : goal.read-requires-clause-inside
read-requires-clause-inside g c = within _ _ _ (c.in-Ok-None.ensures.inside c.in-Ok-None.field-0-is) c.requires.inside

pub read-requires-clause-whole : goal.read-requires-clause-whole
read-requires-clause-whole g c = c.requires.whole

pub block_fault-requires-clause-block : goal.block_fault-requires-clause-block
block_fault-requires-clause-block g c = λ κs lives. c.read.auto.into ∙ c.requires.whole

pub block_fault-requires-clause-inside : goal.block_fault-requires-clause-inside
block_fault-requires-clause-inside g c = λ κs lives. c.in-Ok-None.ensures.inside c.in-Ok-None.field-0-is

pub returns-in-Ok-Some : goal.returns-in-Ok-Some
returns-in-Ok-Some g c =
    let D = g.D.Disk in
    record {
      judged = λ image told.
          place_judged c.args.seat.now.place c.in-Ok-Some.rule c.in-Ok-Some.field-0 _ _ c.in-Ok-Some.field-0-is c.in-Ok-Some.ensures.fault;
      bytes = tt;
      count = tt;
      whole = c.requires.whole;
      blocks = tt;
      met = tt;
      cause = same _;
      disk = reads_none D.size D.holds D.write_faults D.writes D.tells_stops D.moment D.may_leave D.left_since c.args.disk.now;
      reads = as_many _ _;
      ticks = no_step _;
    }

pub returns-in-Err : goal.returns-in-Err
returns-in-Err g c =
    let D = g.D.Disk in
    record {
      judged = λ image told. tt;
      bytes = tt;
      count = tt;
      whole = c.requires.whole;
      blocks = tt;
      met = tt;
      cause = same _;
      disk = reads_none D.size D.holds D.write_faults D.writes D.tells_stops D.moment D.may_leave D.left_since c.args.disk.now;
      reads = as_many _ _;
      ticks = no_step _;
    }

pub returns-in-Err-read : goal.returns-in-Err-read
returns-in-Err-read g c =
    record {
      judged = λ image told. tt;
      bytes = tt;
      count = tt;
      whole = c.read.auto.into ∙ c.requires.whole;
      blocks = tt;
      met = tt;
      cause = c.in-Err-read.ensures.cause;
      disk = let e = c.in-Err-read.ensures in
          record { same_size = e.size; same_contents = e.holds; same_write_faults = e.write_faults; same_writes = e.writes; tells = e.tells; leaves = e.stops; past = e.past };
      reads = none_more _ _ _ _ c.in-Err-read.ensures.reads c.tick.ensures;
      ticks = one_step _ _ c.tick.ensures;
    }

pub returns-in-None : goal.returns-in-None
returns-in-None g c =
    record {
      judged = λ image told.
          let seat = c.args.seat.now in
          bytes_judged (λ (bytes : List ℕ). block_fault (g.K.Kind.shape c.args.kind.now) (volume_of c.args.g.now) c.args.level c.args.beside.now.left c.args.beside.now.right c.args.before seat bytes)
          seat.place c.in-Ok-None.field-0 _ c.block_fault.result (bytes_of_block image seat.place) c.read.new.into c.in-Ok-None.field-0-is c.in-Ok-None.ensures.fault
          c.block_fault.ensures.fault (get_or_from_slice_get image seat.place c.read.new.into [] (c.in-Ok.ensures.bytes image told))
          ∙ ap (λ (o : Option ℕ). at_block seat.place o None) c.in-None.is;
      bytes = λ image told. get_or_from_slice_get image c.args.seat.now.place c.read.new.into [] (c.in-Ok.ensures.bytes image told);
      count = c.block_fault.ensures.fits c.in-None.is;
      whole = c.read.auto.into ∙ c.requires.whole;
      blocks = c.in-Ok-None.ensures.blocks c.in-Ok-None.field-0-is;
      met = c.in-Ok-None.ensures.met c.in-Ok-None.field-0-is;
      cause = c.in-Ok.ensures.cause;
      disk = let e = c.in-Ok.ensures in
          record { same_size = e.size; same_contents = e.holds; same_write_faults = e.write_faults; same_writes = e.writes; tells = e.tells; leaves = e.stops; past = e.past };
      reads = one_more _ _ _ _ c.in-Ok.ensures.reads c.tick.ensures;
      ticks = one_step _ _ c.tick.ensures;
    }

pub returns-in-Some : goal.returns-in-Some
returns-in-Some g c =
    record {
      judged = λ image told.
          let seat = c.args.seat.now in
          bytes_judged (λ (bytes : List ℕ). block_fault (g.K.Kind.shape c.args.kind.now) (volume_of c.args.g.now) c.args.level c.args.beside.now.left c.args.beside.now.right c.args.before seat bytes)
          seat.place c.in-Ok-None.field-0 _ c.block_fault.result (bytes_of_block image seat.place) c.read.new.into c.in-Ok-None.field-0-is c.in-Ok-None.ensures.fault
          c.block_fault.ensures.fault (get_or_from_slice_get image seat.place c.read.new.into [] (c.in-Ok.ensures.bytes image told))
          ∙ ap (λ (o : Option ℕ). at_block seat.place o None) c.in-Some.is;
      bytes = tt;
      count = tt;
      whole = c.read.auto.into ∙ c.requires.whole;
      blocks = tt;
      met = tt;
      cause = c.in-Ok.ensures.cause;
      disk = let e = c.in-Ok.ensures in
          record { same_size = e.size; same_contents = e.holds; same_write_faults = e.write_faults; same_writes = e.writes; tells = e.tells; leaves = e.stops; past = e.past };
      reads = one_more _ _ _ _ c.in-Ok.ensures.reads c.tick.ensures;
      ticks = one_step _ _ c.tick.ensures;
    }

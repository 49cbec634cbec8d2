-- One more block was read.
use Rattle.std.proofs.Common.{ℕ, List, [], ◌∷◌, ◌++◌, get_or, length, length-append, take_all, arith, ap, sym, ◌∙◌}
use Rattle.std.proofs.lemmas.Option.{get_or_from_slice_get}
use Rattle.xfs_disk.proofs.Reading.{reads_on}
use Rattle.xfs_collections.specs.Bank.{blocks_at}
use Rattle.xfs_render.proofs.ObjectSteps.{map_more}
use Rattle.xfs_rebuild.proofs.Causes.{later_since, rose_since}
use Rattle.xfs_rebuild.proofs.bytes.read_blocks.Goals as goal

pub loop-place-preserved : goal.loop-place-preserved
loop-place-preserved g c =
    let D = g.D.Disk in
    let before = c.loop-place.invariant in
    let read = c.in-Ok.ensures in
    let places = c.args.places.now in
    let i = c.loop-place.place-index in
    let block = c.read.new.into in
    let bank = c.loop-place.bank in
    let longer = ap length c.in-Ok-push.ensures ∙ length-append bank (block ∷ []) in
    record {
      read = λ image told. map_more (λ (place : ℕ). get_or image place []) [] bank c.push.new.self places i 0 c.loop-place-test.true (before.read image told)
          (c.in-Ok-push.ensures ∙ ap (λ (b : List ℕ). bank ++ b ∷ [])
          (sym (get_or_from_slice_get image (get_or places i 0) block [] (read.bytes image (before.disk.same_contents ∙ told)))));
      many = let up = before.many in omega (arith, up, longer);
      faults = let up = before.faults in let cause = read.cause in omega (arith, up, cause);
      disk = reads_on D.size D.holds D.write_faults D.writes D.tells_stops D.moment D.may_leave D.left_since c.args.disk.now c.loop-place.disk c.read.new.self before.disk
          (record { same_size = read.size; same_contents = read.holds; same_write_faults = read.write_faults; same_writes = read.writes; tells = read.tells; leaves = read.stops; past = read.past });
    }

pub returns-clause-old : goal.returns-clause-old
returns-clause-old g c = λ image told.
    let past = c.loop-place-test.false in
    c.loop-place.invariant.read image told ∙ ap (λ (ps : List ℕ). blocks_at image ps) (take_all c.loop-place.place-index c.args.places.now (omega (arith, past)))

pub returns-clause-cause : goal.returns-clause-cause
returns-clause-cause g c = c.loop-place.invariant.faults

pub returns-clause-disk : goal.returns-clause-disk
returns-clause-disk g c = c.loop-place.invariant.disk

pub returns-in-Err : goal.returns-in-Err
returns-in-Err g c =
    let D = g.D.Disk in
    let before = c.loop-place.invariant in
    let failed = c.in-Err.ensures in
    record {
      old = tt;
      many = tt;
      refused = tt;
      cause = rose_since (D.faults c.args.disk.now) (D.faults c.loop-place.disk) (D.faults c.read.new.self) before.faults failed.cause;
      disk = reads_on D.size D.holds D.write_faults D.writes D.tells_stops D.moment D.may_leave D.left_since c.args.disk.now c.loop-place.disk c.read.new.self before.disk
          (record { same_size = failed.size; same_contents = failed.holds; same_write_faults = failed.write_faults; same_writes = failed.writes; tells = failed.tells; leaves = failed.stops; past = failed.past });
    }

pub returns-in-Err-push : goal.returns-in-Err-push
returns-in-Err-push g c =
    let D = g.D.Disk in
    let before = c.loop-place.invariant in
    let read = c.in-Ok.ensures in
    record {
      old = tt;
      many = tt;
      refused = tt;
      cause = later_since (D.faults c.args.disk.now) (D.faults c.loop-place.disk) (D.faults c.read.new.self) before.faults read.cause;
      disk = reads_on D.size D.holds D.write_faults D.writes D.tells_stops D.moment D.may_leave D.left_since c.args.disk.now c.loop-place.disk c.read.new.self before.disk
          (record { same_size = read.size; same_contents = read.holds; same_write_faults = read.write_faults; same_writes = read.writes; tells = read.tells; leaves = read.stops; past = read.past });
    }

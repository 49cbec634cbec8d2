use Rattle.std.proofs.Common.{ℕ, ◌+◌, ◌<◌, List, [], ◌∷◌, ◌++◌, length, map, drop, get_or, sym, ap, ◌∙◌, arith}
use Rattle.std.proofs.lemmas.List.{append-nil, drop_more}
use Rattle.xfs_disk.proofs.Reading.{reads_on}
use Rattle.xfs_volume.specs.declared.catalogs.BlockLsn.{BlockLsn}
use Rattle.xfs_image.specs.Lsns.{lsn_at}
use Rattle.xfs_journal.specs.Placed.{listed}
use Rattle.xfs_journal.specs.declared.places.LsnPosition.{LsnPosition}
use Rattle.xfs_journal.proofs.Listing.{grown, none_left}
use Rattle.xfs_journal.proofs.Reading.{later_on, rose_on}
use Rattle.xfs_journal.proofs.lsns.read_places.Goals as goal

-- what stands behind the last
abbrev no_place : LsnPosition
no_place = record { block = 0; byte = 0 }

pub loop-place-init : goal.loop-place-init
loop-place-init g c =
    let D = g.D.Disk in
    let read = c.in-Ok.ensures in
    record {
      lsns = λ image told. ap (λ (xs : List BlockLsn). xs ++ map (lsn_at image) (listed c.args.places.now)) c.in-Ok-with_capacity.ensures.items;
      held = λ image told. tt;
      size = read.count;
      later = read.cause;
      disk = record { same_size = read.size; same_contents = read.holds; same_write_faults = read.write_faults; same_writes = read.writes; tells = read.tells; leaves = read.stops; past = read.past };
      reads = let same = read.reads in omega (arith, same);
    }

pub read_lsn-requires : goal.read_lsn-requires
read_lsn-requires g c =
    let before = c.loop-place.invariant in
    record {
      size = before.size ∙ sym before.disk.same_size;
      inside = c.requires.inside c.loop-place.place-index no_place (omega arith);
      known = λ image told. c.known_at-before.ensures image (c.requires.known image (sym before.disk.same_contents ∙ told));
      held = λ image told. before.held image (sym before.disk.same_contents ∙ told);
    }

pub loop-place-preserved : goal.loop-place-preserved
loop-place-preserved g c =
    let D = g.D.Disk in
    let before = c.loop-place.invariant in
    let read = c.in-Ok-read_lsn.ensures in
    let places = c.args.places.now in
    let i = c.loop-place.place-index in
    let place = get_or places i no_place in
    let old = c.loop-place.lsns.items in
    let inside : i < length places = omega arith in
    record {
      lsns = λ image told.
          grown old c.push_lsn.new.lsns.items (lsn_at image (record { block = place.block; byte = place.byte }) ∷ [])
          (map (lsn_at image) (listed (drop i places))) (map (lsn_at image) (listed (drop (i + 1) places))) (map (lsn_at image) (listed places))
          (c.in-Ok-push_lsn.ensures ∙ ap (λ (n : ℕ). old ++ record { block = place.block; lsn = n } ∷ []) (read.lsn image (before.disk.same_contents ∙ told)))
          (ap (λ (xs : List LsnPosition). map (lsn_at image) (listed xs)) (drop_more places i no_place inside))
          (before.lsns image told);
      held = λ image told. read.held image (before.disk.same_contents ∙ told);
      size = before.size;
      later = later_on (D.faults c.args.disk.now) (D.faults c.loop-place.disk) (D.faults c.read_lsn.new.disk) before.later read.cause;
      disk = reads_on D.size D.holds D.write_faults D.writes D.tells_stops D.moment D.may_leave D.left_since c.args.disk.now c.loop-place.disk c.read_lsn.new.disk before.disk read.disk;
      reads = let up = before.reads in let more = read.reads in omega (arith, up, more);
    }

pub returns-clause-lsns : goal.returns-clause-lsns
returns-clause-lsns g c = λ image told.
    sym (append-nil c.loop-place.lsns.items)
    ∙ ap (λ (xs : List LsnPosition). c.loop-place.lsns.items ++ map (lsn_at image) (listed xs)) (sym (none_left c.args.places.now c.loop-place.place-index (omega arith)))
    ∙ c.loop-place.invariant.lsns image told

pub returns-clause-cause : goal.returns-clause-cause
returns-clause-cause g c = c.loop-place.invariant.later

pub returns-clause-disk : goal.returns-clause-disk
returns-clause-disk g c = c.loop-place.invariant.disk

pub returns-clause-reads : goal.returns-clause-reads
returns-clause-reads g c = c.loop-place.invariant.reads

pub returns-in-Err : goal.returns-in-Err
returns-in-Err g c =
    let D = g.D.Disk in
    let failed = c.in-Err.ensures in
    record {
      lsns = tt;
      cause = failed.cause;
      disk = record { same_size = failed.size; same_contents = failed.holds; same_write_faults = failed.write_faults; same_writes = failed.writes; tells = failed.tells; leaves = failed.stops; past = failed.past };
      reads = let same = failed.reads in omega (arith, same);
    }

pub returns-in-Err-read_lsn : goal.returns-in-Err-read_lsn
returns-in-Err-read_lsn g c =
    let D = g.D.Disk in
    let before = c.loop-place.invariant in
    let failed = c.in-Err-read_lsn.ensures in
    record {
      lsns = tt;
      cause = rose_on (D.faults c.args.disk.now) (D.faults c.loop-place.disk) (D.faults c.read_lsn.new.disk) before.later failed.cause;
      disk = reads_on D.size D.holds D.write_faults D.writes D.tells_stops D.moment D.may_leave D.left_since c.args.disk.now c.loop-place.disk c.read_lsn.new.disk before.disk failed.disk;
      reads = let up = before.reads in let more = failed.reads in omega (arith, up, more);
    }

pub returns-in-Err-push_lsn : goal.returns-in-Err-push_lsn
returns-in-Err-push_lsn g c =
    let D = g.D.Disk in
    let before = c.loop-place.invariant in
    let read = c.in-Ok-read_lsn.ensures in
    record {
      lsns = tt;
      cause = later_on (D.faults c.args.disk.now) (D.faults c.loop-place.disk) (D.faults c.read_lsn.new.disk) before.later read.cause;
      disk = reads_on D.size D.holds D.write_faults D.writes D.tells_stops D.moment D.may_leave D.left_since c.args.disk.now c.loop-place.disk c.read_lsn.new.disk before.disk read.disk;
      reads = let up = before.reads in let more = read.reads in omega (arith, up, more);
    }

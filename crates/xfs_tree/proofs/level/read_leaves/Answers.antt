use borrow.Author.Count.{falls}
use Rattle.std.proofs.Common.{rules, ◌≡◌, ◌+◌, ◌∷◌, ◌++◌, drop, None, sym, ◌∙◌, ap, arith, ℕ, ◌<◌, ◌≤◌, subst, refl}
use Rattle.xfs_geom.specs.Volumes.{volume_of}
use Rattle.xfs_tree.specs.declared.seats.Seat.{Seat}
use Rattle.xfs_disk.specs.Blocks.{bytes_of_block}
use Rattle.xfs_tree.specs.Rules.{last_of}
use Rattle.xfs_tree.specs.Blocks.{records_of}
use Rattle.xfs_tree.proofs.Causes.{caused_before, fault_of_row}
use Rattle.xfs_disk.proofs.Reading.{reads_none, reads_on}
use Rattle.xfs_tree.proofs.RowSteps.{from_none, left_from, none_left, held_more, held_all, places_more, places_all, row_more, row_stops, row_ends}
use Rattle.xfs_tree.proofs.level.read_leaves.Goals as goal

-- what was read and counted in two parts, one behind the other
summed : (reads reads' reads'' steps steps' steps'' : ℕ) → reads' + steps ≤ reads + steps' → reads'' + steps' ≤ reads' + steps'' → reads'' + steps ≤ reads + steps''
summed reads reads' reads'' steps steps' steps'' first second = omega (arith, first, second)

rising : (low middle high : ℕ) → low ≤ middle → middle ≤ high → low ≤ high
rising low middle high first second = omega (arith, first, second)

pub loop-i-preserved : goal.loop-i-preserved
loop-i-preserved g c =
    let D = g.D.Disk in
    let s = g.K.Kind.shape c.args.kind.now in
    let v = volume_of c.args.g.now in
    let row = c.args.row.now in
    let i = c.loop-i.i in
    let seat = c.index-row-i.result in
    let split : drop i row ≡ seat ∷ drop (i + 1) row = left_from row i seat (subst (λ (m : ℕ). i < m) c.loop-i.invariant.ends c.loop-i-test.true) c.index-row-i.is in
    let before = c.loop-i.invariant in
    record {
      ends = before.ends;
      met = c.in-Ok.ensures.met;
      judged = λ image told. row_more s v image 0 c.loop-i.met.blocks.items c.enter.new.met.blocks.items c.loop-i.left None c.place_at.result c.loop-i.before c.last_record-before.result seat
          (drop i row) (drop (i + 1) row) _ split c.place_at.ensures c.in-Ok.ensures.blocks (c.last_record-before.ensures ∙ ap (λ block. last_of c.loop-i.before (records_of s block)) (sym (c.in-Ok.ensures.bytes image (before.disk.same_contents ∙ told))))
          (c.in-Ok.ensures.judged image (before.disk.same_contents ∙ told)) (before.judged image told);
      records = λ image told. held_more (λ (seat : Seat g.row.K-Key.Denot). records_of s (bytes_of_block image seat.place)) seat (drop i row) (drop (i + 1) row)
          c.loop-i.records.items c.push_records.new.records.items _ split
          (c.in-Ok-push_records.ensures ∙ ap (λ block. c.loop-i.records.items ++ records_of s block) (sym (c.in-Ok.ensures.bytes image (before.disk.same_contents ∙ told)))) (before.records image told);
      blocks = places_more seat (drop i row) (drop (i + 1) row) c.loop-i.met.blocks.items c.enter.new.met.blocks.items _ split c.in-Ok.ensures.blocks before.blocks;
      block = c.in-Ok.ensures.whole;
      later = rising _ _ _ before.later c.in-Ok.ensures.cause;
      disk = reads_on D.size D.holds D.write_faults D.writes D.tells_stops D.moment D.may_leave D.left_since c.args.disk.now c.loop-i.disk c.enter.new.disk before.disk c.in-Ok.ensures.disk;
      reads = summed _ _ _ _ _ _ before.reads c.in-Ok.ensures.reads;
    }

pub enter-requires-clause-inside : goal.enter-requires-clause-inside
enter-requires-clause-inside g c = λ κs lives. subst (λ (n : ℕ). c.args.g.now.dblocks ≤ n) (sym c.loop-i.invariant.disk.same_size) c.requires.inside

pub enter-requires-clause-met : goal.enter-requires-clause-met
enter-requires-clause-met g c = λ κs lives. c.loop-i.invariant.met

pub enter-requires-clause-whole : goal.enter-requires-clause-whole
enter-requires-clause-whole g c = λ κs lives. c.loop-i.invariant.block

pub push_records-requires-clause-block : goal.push_records-requires-clause-block
push_records-requires-clause-block g c = λ κs lives. c.in-Ok.ensures.whole

pub push_records-requires-clause-count : goal.push_records-requires-clause-count
push_records-requires-clause-count g c = λ κs lives. c.in-Ok.ensures.count

pub last_record-before-requires-clause-block : goal.last_record-before-requires-clause-block
last_record-before-requires-clause-block g c = λ κs lives. c.in-Ok.ensures.whole

pub last_record-before-requires-clause-count : goal.last_record-before-requires-clause-count
last_record-before-requires-clause-count g c = λ κs lives. c.in-Ok.ensures.count

-- as much at the start
same : (n : ℕ) → n ≤ n
same n = omega arith

pub loop-i-init : goal.loop-i-init
loop-i-init g c =
    let D = g.D.Disk in
    record {
      ends = refl;
      met = c.requires.met;
      judged = λ image told. refl;
      records = λ image told. from_none _ _ c.new-records.ensures.items;
      blocks = refl;
      block = search rules;
      later = same (D.faults c.args.disk.now);
      disk = reads_none D.size D.holds D.write_faults D.writes D.tells_stops D.moment D.may_leave D.left_since c.args.disk.now;
      reads = same _;
    }

pub bounds-row-i : goal.bounds-row-i
bounds-row-i g c = subst (λ (m : ℕ). c.loop-i.i < m) c.loop-i.invariant.ends c.loop-i-test.true

pub loop-i-smaller : goal.loop-i-smaller
loop-i-smaller g c = falls _ _ c.loop-i-test.true

pub returns-in-Err : goal.returns-in-Err
returns-in-Err g c =
    let D = g.D.Disk in
    record {
      judged = λ image told.
          let row = c.args.row.now in
          let i = c.loop-i.i in
          let seat = c.index-row-i.result in
          fault_of_row _ _ c.in-Err.fault
          (λ fault broken. row_stops (g.K.Kind.shape c.args.kind.now) (volume_of c.args.g.now) image 0 c.loop-i.met.blocks.items c.loop-i.left None c.place_at.result c.loop-i.before seat
          (drop i row) (drop (i + 1) row) _ fault (left_from row i seat (subst (λ (m : ℕ). i < m) c.loop-i.invariant.ends c.loop-i-test.true) c.index-row-i.is) c.place_at.ensures broken (c.loop-i.invariant.judged image told))
          (c.in-Err.ensures.judged image (c.loop-i.invariant.disk.same_contents ∙ told));
      records = tt;
      blocks = tt;
      met = tt;
      cause = caused_before _ _ _ c.in-Err.fault c.loop-i.invariant.later c.in-Err.ensures.cause;
      disk = reads_on D.size D.holds D.write_faults D.writes D.tells_stops D.moment D.may_leave D.left_since c.args.disk.now c.loop-i.disk c.enter.new.disk c.loop-i.invariant.disk c.in-Err.ensures.disk;
      reads = summed _ _ _ _ _ _ c.loop-i.invariant.reads c.in-Err.ensures.reads;
    }

pub returns-in-Err-push_records : goal.returns-in-Err-push_records
returns-in-Err-push_records g c =
    let D = g.D.Disk in
    record {
      judged = λ image told. tt;
      records = tt;
      blocks = tt;
      met = tt;
      cause = rising _ _ _ c.loop-i.invariant.later c.in-Ok.ensures.cause;
      disk = reads_on D.size D.holds D.write_faults D.writes D.tells_stops D.moment D.may_leave D.left_since c.args.disk.now c.loop-i.disk c.enter.new.disk c.loop-i.invariant.disk c.in-Ok.ensures.disk;
      reads = summed _ _ _ _ _ _ c.loop-i.invariant.reads c.in-Ok.ensures.reads;
    }

pub returns : goal.returns
returns g c =
    record {
      judged = λ image told.
          row_ends (g.K.Kind.shape c.args.kind.now) (volume_of c.args.g.now) image 0 _ _ None _ (drop c.loop-i.i c.args.row.now) _
          (none_left c.args.row.now c.loop-i.i (subst (λ (m : ℕ). m ≤ c.loop-i.i) c.loop-i.invariant.ends c.loop-i-test.false)) (c.loop-i.invariant.judged image told);
      records = λ image told.
          held_all (λ (seat : Seat g.row.K-Key.Denot). records_of (g.K.Kind.shape c.args.kind.now) (bytes_of_block image seat.place)) (drop c.loop-i.i c.args.row.now) c.loop-i.records.items _
          (none_left c.args.row.now c.loop-i.i (subst (λ (m : ℕ). m ≤ c.loop-i.i) c.loop-i.invariant.ends c.loop-i-test.false)) (c.loop-i.invariant.records image told);
      blocks = places_all (drop c.loop-i.i c.args.row.now) c.loop-i.met.blocks.items _ (none_left c.args.row.now c.loop-i.i (subst (λ (m : ℕ). m ≤ c.loop-i.i) c.loop-i.invariant.ends c.loop-i-test.false)) c.loop-i.invariant.blocks;
      met = c.loop-i.invariant.met;
      cause = c.loop-i.invariant.later;
      disk = c.loop-i.invariant.disk;
      reads = c.loop-i.invariant.reads;
    }

-- Each turn sees the sectors of a run of blocks.
use Rattle.std.proofs.Common.{◌≡◌, ◌≤◌, ◌<◌, ◌+◌, ◌-◌, ◌*◌, ◌/◌, ◌++◌, ℕ, List, length, take, drop, refl, ap, sym, subst, ◌∙◌, arith}
use Rattle.std.specs.List.{range_with_len}
use Rattle.xfs_tree.specs.Blocks.{each_of}
use Rattle.xfs_disk.specs.Blocks.{AreBlocksFrom, bytes_of_block}
use Rattle.xfs_journal.specs.Placed.{sectors_of, seen_in, seen_in_blocks}
use Rattle.xfs_journal.proofs.Listing.{held_from_start, held_to_end}
use Rattle.xfs_journal.proofs.LogSeen.{all_seen, count_more, front_blocks, front_read, held_run, room_kept, seen_read, steps_on, whole_blocks}
use Rattle.xfs_disk.proofs.Reading.{reads_none, reads_on}
use Rattle.xfs_journal.proofs.Reading.{later_on, rose_on}
use Rattle.xfs_journal.proofs.log.see_log.Goals as goal

pub loop-i-init : goal.loop-i-init
loop-i-init g c =
    let D = g.D.Disk in
    record {
      within = omega arith;
      seen = λ image told.
          held_from_start (λ block. each_of 8 (seen_in (bytes_of_block image block))) c.args.g.now.log c.args.g.now.logblocks (sectors_of c.in-Ok.log) c.in-Ok.ensures.empty;
      count = ap (λ xs. length xs) c.in-Ok.ensures.empty;
      listed = c.in-Ok.ensures.listed;
      run = refl;
      later = omega arith;
      disk = reads_none D.size D.holds D.write_faults D.writes D.tells_stops D.moment D.may_leave D.left_since c.args.disk.now;
      reads = omega arith;
    }

pub loop-i-preserved : goal.loop-i-preserved
loop-i-preserved g c =
    let D = g.D.Disk in
    let before = c.loop-i.invariant in
    let n : ℕ = c.min-count.result in
    let least = c.min-count.ensures in
    let few : n ≤ 16 = omega (arith, least) in
    let room : c.loop-i.i + n ≤ c.args.g.now.logblocks = omega (arith, least, c.loop-i-test.true) in
    let front : length (take (n * 4096) c.loop-i.run) ≡ n * 4096 = front_blocks n c.loop-i.run few before.run in
    let count : length (take (n * 4096) c.loop-i.run) / 4096 ≡ n = whole_blocks n (length (take (n * 4096) c.loop-i.run)) front in
    let long : length c.read_blocks.new.run ≡ n * 4096 = c.read_blocks.auto.run ∙ front in
    let shown : take (n * 4096) (c.read_blocks.new.run ++ drop (n * 4096) c.loop-i.run) ≡ c.read_blocks.new.run = front_read n c.read_blocks.new.run c.loop-i.run long in
    record {
      within = room;
      seen = λ image told.
          held_run (λ block. each_of 8 (seen_in (bytes_of_block image block))) c.args.g.now.log c.loop-i.i n c.args.g.now.logblocks (sectors_of c.loop-i.log) (sectors_of c.see_blocks.new.log) _ room
          (c.in-Ok-see_blocks.ensures.seen ∙ ap (λ (bytes : List ℕ). sectors_of c.loop-i.log ++ seen_in_blocks bytes 0 (length bytes / 4096)) shown
          ∙ ap (λ (k : ℕ). sectors_of c.loop-i.log ++ seen_in_blocks c.read_blocks.new.run 0 k) (whole_blocks n (length c.read_blocks.new.run) long)
          ∙ ap (λ xs. sectors_of c.loop-i.log ++ xs) (seen_read image (c.args.g.now.log + c.loop-i.i) n c.read_blocks.new.run
          (subst (λ (k : ℕ). AreBlocksFrom image (c.args.g.now.log + c.loop-i.i) k c.read_blocks.new.run) count (c.in-Ok-read_blocks.ensures.bytes image (before.disk.same_contents ∙ told)))))
          (before.seen image told);
      count = count_more c.read_blocks.new.run c.loop-i.i n (sectors_of c.loop-i.log) (sectors_of c.see_blocks.new.log) before.count
          (c.in-Ok-see_blocks.ensures.seen ∙ ap (λ (bytes : List ℕ). sectors_of c.loop-i.log ++ seen_in_blocks bytes 0 (length bytes / 4096)) shown
          ∙ ap (λ (k : ℕ). sectors_of c.loop-i.log ++ seen_in_blocks c.read_blocks.new.run 0 k) (whole_blocks n (length c.read_blocks.new.run) long));
      listed = c.in-Ok-see_blocks.ensures.listed;
      run = room_kept n c.read_blocks.new.run c.loop-i.run few long before.run;
      later = let up = before.later in let cause = c.in-Ok-read_blocks.ensures.cause in omega (arith, up, cause);
      disk = reads_on D.size D.holds D.write_faults D.writes D.tells_stops D.moment D.may_leave D.left_since c.args.disk.now c.loop-i.disk c.read_blocks.new.disk before.disk c.read_blocks.ensures.disk;
      reads = steps_on (D.reads c.args.disk.now) (D.reads c.loop-i.disk) (D.reads c.read_blocks.new.disk) c.args.steps.now c.loop-i.steps c.read_blocks.new.steps _ before.reads c.read_blocks.ensures.reads c.read_blocks.ensures.ticks;
    }

pub loop-i-smaller : goal.loop-i-smaller
loop-i-smaller g c =
    let least = c.min-count.ensures in
    let less : c.args.g.now.logblocks - (c.loop-i.i + c.min-count.result) < c.args.g.now.logblocks - c.loop-i.i = omega (arith, least, c.loop-i-test.true) in
    less

pub read_blocks-requires : goal.read_blocks-requires
read_blocks-requires g c =
    let before = c.loop-i.invariant in
    let n : ℕ = c.min-count.result in
    let least = c.min-count.ensures in
    let few : n ≤ 16 = omega (arith, least) in
    let room : c.loop-i.i + n ≤ c.args.g.now.logblocks = omega (arith, least, c.loop-i-test.true) in
    let front : length (take (n * 4096) c.loop-i.run) ≡ n * 4096 = front_blocks n c.loop-i.run few before.run in
    let count : length (take (n * 4096) c.loop-i.run) / 4096 ≡ n = whole_blocks n (length (take (n * 4096) c.loop-i.run)) front in
    record {
      inside = subst (λ (d : ℕ). c.args.g.now.dblocks ≤ d) (sym before.disk.same_size) c.requires.inside;
      log = omega (arith, count, room);
      some = c.loop-i-test.true;
      whole = omega (arith, front);
    }

pub returns : goal.returns
returns g c =
    let all = c.loop-i.invariant in
    record {
      seen = λ image told.
          held_to_end (λ block. each_of 8 (seen_in (bytes_of_block image block))) c.args.g.now.log c.loop-i.i c.args.g.now.logblocks (sectors_of c.loop-i.log) _
          (omega (arith, c.loop-i-test.false)) (all.seen image told)
          ∙ sym (all_seen image (range_with_len c.args.g.now.log c.args.g.now.logblocks));
      count = all.count ∙ ap (λ (k : ℕ). 8 * k) (omega (arith, all.within, c.loop-i-test.false));
      listed = all.listed;
      cause = all.later;
      disk = all.disk;
      reads = all.reads;
    }

pub returns-in-Err : goal.returns-in-Err
returns-in-Err g c =
    let D = g.D.Disk in
    record {
      seen = tt;
      count = tt;
      listed = tt;
      cause = omega arith;
      disk = reads_none D.size D.holds D.write_faults D.writes D.tells_stops D.moment D.may_leave D.left_since c.args.disk.now;
      reads = omega arith;
    }

pub returns-in-Err-read_blocks : goal.returns-in-Err-read_blocks
returns-in-Err-read_blocks g c =
    let D = g.D.Disk in
    let before = c.loop-i.invariant in
    record {
      seen = tt;
      count = tt;
      listed = tt;
      cause = rose_on (D.faults c.args.disk.now) (D.faults c.loop-i.disk) (D.faults c.read_blocks.new.disk) before.later c.in-Err-read_blocks.ensures.cause;
      disk = reads_on D.size D.holds D.write_faults D.writes D.tells_stops D.moment D.may_leave D.left_since c.args.disk.now c.loop-i.disk c.read_blocks.new.disk before.disk c.read_blocks.ensures.disk;
      reads = steps_on (D.reads c.args.disk.now) (D.reads c.loop-i.disk) (D.reads c.read_blocks.new.disk) c.args.steps.now c.loop-i.steps c.read_blocks.new.steps _ before.reads c.read_blocks.ensures.reads c.read_blocks.ensures.ticks;
    }

pub returns-in-Err-see_blocks : goal.returns-in-Err-see_blocks
returns-in-Err-see_blocks g c =
    let D = g.D.Disk in
    let before = c.loop-i.invariant in
    record {
      seen = tt;
      count = tt;
      listed = tt;
      cause = later_on (D.faults c.args.disk.now) (D.faults c.loop-i.disk) (D.faults c.read_blocks.new.disk) before.later c.in-Ok-read_blocks.ensures.cause;
      disk = reads_on D.size D.holds D.write_faults D.writes D.tells_stops D.moment D.may_leave D.left_since c.args.disk.now c.loop-i.disk c.read_blocks.new.disk before.disk c.read_blocks.ensures.disk;
      reads = steps_on (D.reads c.args.disk.now) (D.reads c.loop-i.disk) (D.reads c.read_blocks.new.disk) c.args.steps.now c.loop-i.steps c.read_blocks.new.steps _ before.reads c.read_blocks.ensures.reads c.read_blocks.ensures.ticks;
    }

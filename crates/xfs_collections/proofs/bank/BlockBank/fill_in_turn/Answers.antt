-- Several blocks more are the disk's.
use Rattle.std.proofs.Common.{◌≡◌, ◌≤◌, ◌<◌, ◌+◌, ◌-◌, ℕ, List, length, take, drop, get_or, refl, ap, subst, ◌∙◌, arith}
use Rattle.std.proofs.lemmas.List.{length-drop, take_all, take_rest}
use Rattle.xfs_disk.proofs.Reading.{reads_on}
use Rattle.xfs_disk.proofs.Runs.{rose_on}
use Rattle.xfs_collections.specs.Bank.{AreNeighbours, blocks_at}
use Rattle.xfs_collections.proofs.Runs.{last_of_run, rest_on, run_first}
use Rattle.xfs_collections.proofs.Scattered.{drop_later}
use Rattle.xfs_collections.proofs.bank.BlockBank.fill_in_turn.Goals as goal

pub loop-i-preserved : goal.loop-i-preserved
loop-i-preserved g c =
    let D = g.D.Disk in
    let before = c.loop-i.invariant in
    let read = c.in-Ok.ensures in
    let n = c.run_length-count.result in
    let behind = c.run_length-count.ensures in
    let left = take_rest c.args.places.now c.loop-i.i in
    let few = subst (λ (xs : List ℕ). c.run_length-count.result ≤ length xs) left behind.within in
    let run = subst (AreNeighbours c.run_length-count.result) left behind.run in
    let within : c.loop-i.i + c.run_length-count.result ≤ length c.args.places.now = omega (arith, few, length-drop c.loop-i.i c.args.places.now, c.loop-i-test.true) in
    let same = read.len in
    let inside : c.loop-i.i + c.run_length-count.result ≤ length c.read_blocks.new.self = omega (arith, within, c.requires.room, before.len, same) in
    record {
      within = within;
      first = λ image told.
          run_first image c.loop-i.self c.read_blocks.new.self c.args.places.now c.loop-i.i n (get_or c.args.places.now c.loop-i.i 0) within inside run refl
          (read.held image (before.disk.same_contents ∙ told)) read.first (before.first image told);
      rest = rest_on c.args.self.now c.loop-i.self c.read_blocks.new.self c.loop-i.i n read.rest before.rest;
      len = read.len ∙ before.len;
      faults = let up = before.faults in let cause = read.cause in omega (arith, up, cause);
      disk = reads_on D.size D.holds D.write_faults D.writes D.tells_stops D.moment D.may_leave D.left_since c.args.disk.now c.loop-i.disk c.read_blocks.new.disk before.disk read.disk;
      reads = let up = before.reads in let more = read.reads in omega (arith, up, more);
    }

pub loop-i-smaller : goal.loop-i-smaller
loop-i-smaller g c =
    let some = c.run_length-count.ensures.some in
    let less : length c.args.places.now - (c.loop-i.i + c.run_length-count.result) < length c.args.places.now - c.loop-i.i = omega (arith, some, c.loop-i-test.true) in
    less

pub read_blocks-requires : goal.read_blocks-requires
read_blocks-requires g c =
    let before = c.loop-i.invariant in
    let n = c.run_length-count.result in
    let places = c.args.places.now in
    let behind = c.run_length-count.ensures in
    let left = take_rest c.args.places.now c.loop-i.i in
    let few = subst (λ (xs : List ℕ). c.run_length-count.result ≤ length xs) left behind.within in
    let run = subst (AreNeighbours c.run_length-count.result) left behind.run in
    let some = behind.some in
    let within : c.loop-i.i + c.run_length-count.result ≤ length c.args.places.now = omega (arith, few, length-drop c.loop-i.i c.args.places.now, c.loop-i-test.true) in
    let last = last_of_run places c.loop-i.i n run some in
    let there = c.requires.inside (c.loop-i.i + (n - 1)) 0 (omega (arith, within, some)) in
    let size = before.disk.same_size in
    let fits = c.type_inv.places (c.loop-i.i + (n - 1)) in
    record {
      inside = omega (arith, last, there, size, some);
      numbers = omega (arith, last, fits, some);
      room = omega (arith, within, c.requires.room, before.len);
      some = some;
    }

pub returns : goal.returns
returns g c =
    let all = c.loop-i.invariant in
    let places = c.args.places.now in
    let end : c.loop-i.i ≡ length c.args.places.now = omega (arith, c.loop-i-test.false, all.within) in
    let rest : drop (length c.args.places.now) c.loop-i.self ≡ drop (length c.args.places.now) c.args.self.now = subst (λ (k : ℕ). drop k c.loop-i.self ≡ drop k c.args.self.now) end all.rest in
    record {
      filled = record {
        first = λ image told.
            subst (λ (k : ℕ). take k c.loop-i.self ≡ blocks_at image (take k c.args.places.now)) end (all.first image told) ∙ ap (λ xs. blocks_at image xs) (take_all (length places) places (omega arith));
        rest = rest;
      };
      rest = rest;
      len = all.len;
      cause = all.faults;
      disk = all.disk;
      reads = let up = all.reads in omega (arith, up, end);
    }

pub returns-in-Err : goal.returns-in-Err
returns-in-Err g c =
    let D = g.D.Disk in
    let before = c.loop-i.invariant in
    let read = c.in-Err.ensures in
    let n = c.run_length-count.result in
    let few = subst (λ (xs : List ℕ). c.run_length-count.result ≤ length xs) (take_rest c.args.places.now c.loop-i.i) c.run_length-count.ensures.within in
    let within : c.loop-i.i + c.run_length-count.result ≤ length c.args.places.now = omega (arith, few, length-drop c.loop-i.i c.args.places.now, c.loop-i-test.true) in
    let past = rest_on c.args.self.now c.loop-i.self c.read_blocks.new.self c.loop-i.i n read.rest before.rest in
    record {
      filled = tt;
      rest = drop_later c.args.self.now c.read_blocks.new.self (c.loop-i.i + n) (length c.args.places.now) within past;
      len = read.len ∙ before.len;
      cause = rose_on (D.faults c.args.disk.now) (D.faults c.loop-i.disk) (D.faults c.read_blocks.new.disk) before.faults read.cause;
      disk = reads_on D.size D.holds D.write_faults D.writes D.tells_stops D.moment D.may_leave D.left_since c.args.disk.now c.loop-i.disk c.read_blocks.new.disk before.disk read.disk;
      reads = let up = before.reads in let more = read.reads in omega (arith, up, more, within);
    }

-- Each turn reads one block more into its place.
use Rattle.std.proofs.Common.{◌≡◌, ◌≤◌, ◌+◌, ◌*◌, ◌/◌, ℕ, length, refl, subst, ◌∙◌, arith}
use Rattle.xfs_disk.specs.Blocks.{AreBlocksFrom}
use Rattle.xfs_disk.specs.Counts.{raised_times}
use Rattle.xfs_disk.proofs.Reading.{reads_none, reads_on}
use Rattle.xfs_disk.proofs.Runs.{blocks_next, blocks_none, raised_more, rose_on}
use Rattle.xfs_disk.proofs.disk.Disk.read_run.Goals as goal

pub loop-i-init : goal.loop-i-init
loop-i-init g c =
    let D = g.Self.Disk in
    record {
      bytes = λ image told. blocks_none image c.args.at c.args.into.now;
      later = omega arith;
      disk = reads_none D.size D.holds D.write_faults D.writes D.tells_stops D.moment D.may_leave D.left_since c.args.self.now;
      reads = omega arith;
      counted = refl;
    }

pub read-requires-clause-inside : goal.read-requires-clause-inside
read-requires-clause-inside g c =
    let size : g.Self.Disk.size c.loop-i.self ≡ g.Self.Disk.size c.args.self.now = c.loop-i.invariant.disk.same_size in
    omega (arith, c.requires.inside, c.loop-i-test.true, size)

pub loop-i-preserved : goal.loop-i-preserved
loop-i-preserved g c =
    let D = g.Self.Disk in
    let before = c.loop-i.invariant in
    let read = c.in-Ok.ensures in
    let room : c.loop-i.i * 4096 + 4096 ≤ length c.loop-i.into = omega (arith, c.loop-i-test.true, c.loop-i.auto.into) in
    let whole : length c.read.new.into ≡ 4096 = omega (arith, c.read.auto.into) in
    record {
      bytes = λ image told. blocks_next image c.args.at c.loop-i.i c.loop-i.into c.read.new.into room whole (before.bytes image told) (read.bytes image (before.disk.same_contents ∙ told));
      later = let up = before.later in let cause = read.cause in omega (arith, up, cause);
      disk = reads_on D.size D.holds D.write_faults D.writes D.tells_stops D.moment D.may_leave D.left_since c.args.self.now c.loop-i.self c.read.new.self before.disk
          (record { same_size = read.size; same_contents = read.holds; same_write_faults = read.write_faults; same_writes = read.writes; tells = read.tells; leaves = read.stops; past = read.past });
      reads = let up = before.reads in let once = read.reads in omega (arith, up, once);
      counted = raised_more c.loop-i.i (D.reads c.args.self.now) (D.reads c.loop-i.self) (D.reads c.read.new.self) before.counted read.reads;
    }

pub returns-in-Err : goal.returns-in-Err
returns-in-Err g c =
    let D = g.Self.Disk in
    let before = c.loop-i.invariant in
    let read = c.in-Err.ensures in
    let all = reads_on D.size D.holds D.write_faults D.writes D.tells_stops D.moment D.may_leave D.left_since c.args.self.now c.loop-i.self c.read.new.self before.disk
    (record { same_size = read.size; same_contents = read.holds; same_write_faults = read.write_faults; same_writes = read.writes; tells = read.tells; leaves = read.stops; past = read.past }) in
    record {
      bytes = tt;
      size = all.same_size;
      holds = all.same_contents;
      cause = rose_on (D.faults c.args.self.now) (D.faults c.loop-i.self) (D.faults c.read.new.self) before.later read.cause;
      write_faults = all.same_write_faults;
      reads = let up = before.reads in let none = read.reads in omega (arith, up, none, c.loop-i-test.true);
      counted = tt;
      writes = all.same_writes;
      stops = all.leaves;
      past = all.past;
      tells = all.tells;
    }

pub returns : goal.returns
returns g c =
    let D = g.Self.Disk in
    let all = c.loop-i.invariant in
    let end : c.loop-i.i ≡ length c.args.into.now / 4096 = omega (arith, c.loop-i-test.false, c.loop-i.auto.i-end) in
    record {
      bytes = λ image told. subst (λ (n : ℕ). AreBlocksFrom image c.args.at n c.loop-i.into) end (all.bytes image told);
      size = all.disk.same_size;
      holds = all.disk.same_contents;
      cause = all.later;
      write_faults = all.disk.same_write_faults;
      reads = let up = all.reads in omega (arith, up, end);
      counted = subst (λ (n : ℕ). D.reads c.loop-i.self ≡ raised_times n (D.reads c.args.self.now)) end all.counted;
      writes = all.disk.same_writes;
      stops = all.disk.leaves;
      past = all.disk.past;
      tells = all.disk.tells;
    }

use Rattle.std.proofs.Common.{ℕ, List, ap, rules, ◌∙◌, subst, arith}
use Rattle.std.proofs.lemmas.List.{length-replicate}
use Rattle.xfs_geom.specs.Volumes.{volume_of}
use Rattle.xfs_image.specs.Directories.{FileBlock, file_block_at, blocks_of_extent}
use Rattle.xfs_disk.proofs.Reading.{reads_none, reads_on}
use Rattle.xfs_tree.proofs.Rest.{rest_all, rest_none, rest_of}
use Rattle.xfs_dirs.specs.Gathered.{AreBelow, found_of, with_file_blocks}
use Rattle.xfs_dirs.proofs.Causes.{later_on, no_later, rose_on}
use Rattle.xfs_dirs.proofs.Extents.{is_inside}
use Rattle.xfs_dirs.proofs.Taken.{block_next, no_block}
use Rattle.xfs_dirs.proofs.blocks.read_extent.Goals as goal

pub overflow_add-start : goal.overflow_add-start
overflow_add-start g c =
    let facts = is_inside c.args.g.now c.args.extent.now c.requires.extent in
    record { fits = omega (arith, c.start_of-start.ensures) }

pub overflow_add-start-in-loop-i : goal.overflow_add-start-in-loop-i
overflow_add-start-in-loop-i g c =
    let facts = is_inside c.args.g.now c.args.extent.now c.requires.extent in
    record { fits = omega (arith, c.start_of-start.ensures) }

pub read-requires-clause-inside : goal.read-requires-clause-inside
read-requires-clause-inside g c =
    let facts = is_inside c.args.g.now c.args.extent.now c.requires.extent in
    omega (arith, c.start_of-start.ensures, c.requires.inside, c.loop-i.invariant.disk.same_size)

pub take_block-requires-clause-inside : goal.take_block-requires-clause-inside
take_block-requires-clause-inside g c =
    let facts = is_inside c.args.g.now c.args.extent.now c.requires.extent in
    omega (arith, c.start_of-start.ensures)

pub loop-i-init : goal.loop-i-init
loop-i-init g c =
    let D = g.D.Disk in
    let v = volume_of c.args.g.now in
    let e = c.args.extent.now in
    record {
      ends = search rules;
      found = λ image told. ap (λ (bs : List FileBlock). with_file_blocks v c.args.dir (found_of c.args.gathered.now) bs) (rest_all e.count (file_block_at v image e));
      below = subst (AreBelow c.args.gathered.now.kept) (omega arith) c.requires.below;
      block = length-replicate {A = ℕ} 4096 0;
      later = no_later (D.faults c.args.disk.now);
      disk = reads_none D.size D.holds D.write_faults D.writes D.tells_stops D.moment D.may_leave D.left_since c.args.disk.now;
      reads = omega arith;
    }

pub loop-i-preserved : goal.loop-i-preserved
loop-i-preserved g c =
    let D = g.D.Disk in
    let v = volume_of c.args.g.now in
    let e = c.args.extent.now in
    let before = c.loop-i.invariant in
    let read = c.in-Ok.ensures in
    record {
      ends = before.ends;
      found = λ image told. block_next v c.args.dir image e c.loop-i.i c.start_of-start.result c.read.new.into (found_of c.loop-i.gathered) (found_of c.take_block.new.gathered)
          (with_file_blocks v c.args.dir (found_of c.args.gathered.now) (blocks_of_extent v image e))
          (omega arith) c.start_of-start.ensures (read.bytes image (before.disk.same_contents ∙ told)) c.in-Ok-take_block.ensures.found (before.found image told);
      below = subst (AreBelow c.take_block.new.gathered.kept) (omega arith) c.in-Ok-take_block.ensures.below;
      block = c.read.auto.into ∙ before.block;
      later = let up = before.later in let cause = read.cause in omega (arith, up, cause);
      disk = reads_on D.size D.holds D.write_faults D.writes D.tells_stops D.moment D.may_leave D.left_since c.args.disk.now c.loop-i.disk c.read.new.self before.disk
          (record { same_size = read.size; same_contents = read.holds; same_write_faults = read.write_faults; same_writes = read.writes; tells = read.tells; leaves = read.stops; past = read.past });
      reads = let up = before.reads in let more = read.reads in let step = c.tick.ensures in omega (arith, up, more, step);
    }

pub returns-clause-found : goal.returns-clause-found
returns-clause-found g c = λ image told.
    no_block (volume_of c.args.g.now) c.args.dir (rest_of c.loop-i.i c.args.extent.now.count (file_block_at (volume_of c.args.g.now) image c.args.extent.now)) (found_of c.loop-i.gathered)
    (with_file_blocks (volume_of c.args.g.now) c.args.dir (found_of c.args.gathered.now) (blocks_of_extent (volume_of c.args.g.now) image c.args.extent.now))
    (rest_none c.loop-i.i c.args.extent.now.count (file_block_at (volume_of c.args.g.now) image c.args.extent.now) (omega arith)) (c.loop-i.invariant.found image told)

pub returns-clause-below : goal.returns-clause-below
returns-clause-below g c = subst (AreBelow c.loop-i.gathered.kept) (omega arith) c.loop-i.invariant.below

pub returns-clause-cause : goal.returns-clause-cause
returns-clause-cause g c = c.loop-i.invariant.later

pub returns-clause-disk : goal.returns-clause-disk
returns-clause-disk g c = c.loop-i.invariant.disk

pub returns-clause-reads : goal.returns-clause-reads
returns-clause-reads g c = c.loop-i.invariant.reads

pub returns-in-Err : goal.returns-in-Err
returns-in-Err g c =
    let D = g.D.Disk in
    let before = c.loop-i.invariant in
    let read = c.in-Err.ensures in
    record {
      found = tt;
      below = tt;
      cause = rose_on (D.faults c.args.disk.now) (D.faults c.loop-i.disk) (D.faults c.read.new.self) before.later read.cause;
      disk = reads_on D.size D.holds D.write_faults D.writes D.tells_stops D.moment D.may_leave D.left_since c.args.disk.now c.loop-i.disk c.read.new.self before.disk
          (record { same_size = read.size; same_contents = read.holds; same_write_faults = read.write_faults; same_writes = read.writes; tells = read.tells; leaves = read.stops; past = read.past });
      reads = let up = before.reads in let more = read.reads in let step = c.tick.ensures in omega (arith, up, more, step);
    }

pub returns-in-Err-take_block : goal.returns-in-Err-take_block
returns-in-Err-take_block g c =
    let D = g.D.Disk in
    let before = c.loop-i.invariant in
    let read = c.in-Ok.ensures in
    record {
      found = tt;
      below = tt;
      cause = later_on (D.faults c.args.disk.now) (D.faults c.loop-i.disk) (D.faults c.read.new.self) before.later read.cause;
      disk = reads_on D.size D.holds D.write_faults D.writes D.tells_stops D.moment D.may_leave D.left_since c.args.disk.now c.loop-i.disk c.read.new.self before.disk
          (record { same_size = read.size; same_contents = read.holds; same_write_faults = read.write_faults; same_writes = read.writes; tells = read.tells; leaves = read.stops; past = read.past });
      reads = let up = before.reads in let more = read.reads in let step = c.tick.ensures in omega (arith, up, more, step);
    }

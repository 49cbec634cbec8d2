use Rattle.std.proofs.Common.{ℕ, ◌≤◌, None, sym, ap, subst, ◌∙◌, arith}
use Rattle.xfs_geom.specs.Volumes.{volume_of}
use Rattle.xfs_slots.specs.Gathered.{held_in, gathered_both, of_none}
use Rattle.xfs_slots.proofs.Outside.{none_read}
use Rattle.xfs_slots.proofs.Rests.{read_bytes}
use Rattle.xfs_disk.proofs.Reading.{reads_none, reads_on}
use Rattle.xfs_slots.proofs.Causes.{result_caused}
use Rattle.xfs_scan.proofs.Counts.{below, counted_behind, counted_none}
use Rattle.xfs_scan.proofs.view.look_at_block.Goals as goal

pub returns-then-block-g-clause-held : goal.returns-then-block-g-clause-held
returns-then-block-g-clause-held g c = λ image told.
    let shape = c.args.g.now.shape in
    c.pass.ensures
    ∙ ap (λ (ino : ℕ). gathered_both (held_in c.args.inodes.now) (of_none ino None)) c.first_inode.ensures
    ∙ ap (gathered_both (held_in c.args.inodes.now)) (sym (none_read (volume_of c.args.g.now) image c.args.block shape.groups shape.addresses c.if-block-g.true))

pub see_block-requires-clause-held : goal.see_block-requires-clause-held
see_block-requires-clause-held g c = λ image told.
    read_bytes image c.args.block c.read.new.into (c.in-Ok.ensures.bytes image (sym c.in-Ok.ensures.holds ∙ told))

pub first_inode-requires : goal.first_inode-requires
first_inode-requires g c = c.requires.low

pub returns-then-block-g-clause-cause : goal.returns-then-block-g-clause-cause
returns-then-block-g-clause-cause g c = omega arith

pub returns-then-block-g-clause-disk : goal.returns-then-block-g-clause-disk
returns-then-block-g-clause-disk g c = let D = g.D.Disk in reads_none D.size D.holds D.write_faults D.writes D.tells_stops D.moment D.may_leave D.left_since c.args.disk.now

pub read-requires-clause-inside : goal.read-requires-clause-inside
read-requires-clause-inside g c = below c.args.block c.args.g.now.dblocks (g.D.Disk.size c.args.disk.now) c.if-block-g.false c.requires.inside

pub see_block-requires-clause-inside : goal.see_block-requires-clause-inside
see_block-requires-clause-inside g c = subst (λ (n : ℕ). c.args.g.now.dblocks ≤ n) (sym c.in-Ok.ensures.size) c.requires.inside

pub returns-in-Ok-clause-cause : goal.returns-in-Ok-clause-cause
returns-in-Ok-clause-cause g c =
    let D = g.D.Disk in
    result_caused (D.faults c.args.disk.now) (D.faults c.read.new.self) (D.faults c.see_block.new.disk) c.see_block.result c.in-Ok.ensures.cause c.see_block.ensures.cause

pub returns-in-Ok-clause-disk : goal.returns-in-Ok-clause-disk
returns-in-Ok-clause-disk g c =
    let D = g.D.Disk in
    reads_on D.size D.holds D.write_faults D.writes D.tells_stops D.moment D.may_leave D.left_since c.args.disk.now c.read.new.self c.see_block.new.disk
    (record {
      same_size = c.in-Ok.ensures.size;
      same_contents = c.in-Ok.ensures.holds;
      same_write_faults = c.in-Ok.ensures.write_faults;
      same_writes = c.in-Ok.ensures.writes;
      tells = c.in-Ok.ensures.tells;
      leaves = c.in-Ok.ensures.stops;
      past = c.in-Ok.ensures.past;
    })
    c.see_block.ensures.disk

pub returns-in-Ok-clause-reads : goal.returns-in-Ok-clause-reads
returns-in-Ok-clause-reads g c =
    let D = g.D.Disk in
    counted_behind (D.reads c.args.disk.now) (D.reads c.read.new.self) (D.reads c.see_block.new.disk) c.args.steps.now c.tick.new.self c.see_block.new.steps c.in-Ok.ensures.reads c.tick.ensures c.see_block.ensures.reads

pub returns-in-Err : goal.returns-in-Err
returns-in-Err g c =
    let D = g.D.Disk in
    record {
      held = tt;
      cause = c.in-Err.ensures.cause;
      disk = record {
        same_size = c.in-Err.ensures.size;
        same_contents = c.in-Err.ensures.holds;
        same_write_faults = c.in-Err.ensures.write_faults;
        same_writes = c.in-Err.ensures.writes;
        tells = c.in-Err.ensures.tells;
        leaves = c.in-Err.ensures.stops;
        past = c.in-Err.ensures.past;
      };
      reads = counted_none (D.reads c.args.disk.now) (D.reads c.read.new.self) c.args.steps.now c.tick.new.self c.in-Err.ensures.reads c.tick.ensures;
    }

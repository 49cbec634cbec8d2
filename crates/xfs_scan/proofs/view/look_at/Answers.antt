use Rattle.std.proofs.Common.{ℕ, ◌≤◌, ◌+◌, ◌∙◌, refl, sym, ap, subst, drop, get_or, arith}
use Rattle.std.specs.List.{flat_map}
use Rattle.std.proofs.lemmas.List.{drop_more}
use Rattle.xfs_geom.specs.Volumes.{volume_of}
use Rattle.xfs_image.specs.Slots.{inodes_of_block}
use Rattle.xfs_slots.specs.Gathered.{held_in, inodes_of_blocks}
use Rattle.xfs_slots.proofs.Gathering.{slots_end, slots_more}
use Rattle.xfs_disk.proofs.Reading.{reads_none, reads_on}
use Rattle.xfs_slots.proofs.Rests.{none_left}
use Rattle.xfs_slots.proofs.Causes.{caused_on}
use Rattle.xfs_scan.proofs.Counts.{counted, later}
use Rattle.xfs_scan.proofs.view.look_at.Goals as goal

pub loop-block-preserved : goal.loop-block-preserved
loop-block-preserved g c =
    let D = g.D.Disk in
    let v = volume_of c.args.g.now in
    let i = c.loop-block.block-index in
    let blocks = c.args.blocks.now in
    let before = c.loop-block.invariant in
    record {
      held = λ image told. slots_more v image (inodes_of_block v (get_or blocks i 0)) (inodes_of_blocks v (drop i blocks)) (inodes_of_blocks v (drop (i + 1) blocks))
          (held_in c.loop-block.inodes) (held_in c.look_at_block.new.inodes) _ (ap (flat_map (inodes_of_block v)) (drop_more blocks i 0 c.loop-block-test.true))
          (c.in-Ok.ensures.held image (before.disk.same_contents ∙ told)) (before.held image told);
      later = later (D.faults c.args.disk.now) (D.faults c.loop-block.disk) (D.faults c.look_at_block.new.disk) before.later c.in-Ok.ensures.cause;
      disk = reads_on D.size D.holds D.write_faults D.writes D.tells_stops D.moment D.may_leave D.left_since c.args.disk.now c.loop-block.disk c.look_at_block.new.disk before.disk c.in-Ok.ensures.disk;
      reads = counted (D.reads c.args.disk.now) (D.reads c.loop-block.disk) (D.reads c.look_at_block.new.disk) c.args.steps.now c.loop-block.steps c.look_at_block.new.steps before.reads c.in-Ok.ensures.reads;
    }

pub returns : goal.returns
returns g c =
    record {
      held = λ image told.
          let v = volume_of c.args.g.now in
          slots_end v image (inodes_of_blocks v (drop c.loop-block.block-index c.args.blocks.now)) (held_in c.loop-block.inodes) _
          (ap (flat_map (inodes_of_block v)) (none_left c.args.blocks.now c.loop-block.block-index c.loop-block-test.false)) (c.loop-block.invariant.held image told);
      cause = c.loop-block.invariant.later;
      disk = c.loop-block.invariant.disk;
      reads = c.loop-block.invariant.reads;
    }

pub loop-block-init : goal.loop-block-init
loop-block-init g c =
    let D = g.D.Disk in
    record {
      held = λ image told. refl;
      later = omega arith;
      disk = reads_none D.size D.holds D.write_faults D.writes D.tells_stops D.moment D.may_leave D.left_since c.args.disk.now;
      reads = omega arith;
    }

pub look_at_block-requires-clause-inside : goal.look_at_block-requires-clause-inside
look_at_block-requires-clause-inside g c = subst (λ (n : ℕ). c.args.g.now.dblocks ≤ n) (sym c.loop-block.invariant.disk.same_size) c.requires.inside

pub look_at_block-requires-clause-low : goal.look_at_block-requires-clause-low
look_at_block-requires-clause-low g c = c.requires.low c.loop-block.block-index 0 c.loop-block-test.true

pub returns-in-Err : goal.returns-in-Err
returns-in-Err g c =
    let D = g.D.Disk in
    let before = c.loop-block.invariant in
    let failed = c.in-Err.ensures in
    record {
      held = tt;
      cause = caused_on (D.faults c.args.disk.now) (D.faults c.loop-block.disk) (D.faults c.look_at_block.new.disk) c.in-Err.fault before.later failed.cause;
      disk = reads_on D.size D.holds D.write_faults D.writes D.tells_stops D.moment D.may_leave D.left_since c.args.disk.now c.loop-block.disk c.look_at_block.new.disk before.disk failed.disk;
      reads = counted (D.reads c.args.disk.now) (D.reads c.loop-block.disk) (D.reads c.look_at_block.new.disk) c.args.steps.now c.loop-block.steps c.look_at_block.new.steps before.reads failed.reads;
    }

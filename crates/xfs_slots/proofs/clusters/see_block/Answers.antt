use Rattle.std.proofs.Common.{ℕ, ◌+◌, ◌≤◌, sym, subst, ◌∙◌, arith, rules}
use Rattle.xfs_geom.specs.Conversions.{inode_of}
use Rattle.xfs_geom.specs.Volumes.{volume_of}
use Rattle.xfs_slots.specs.Gathered.{held_in}
use Rattle.xfs_slots.proofs.Causes.{caused_on}
use Rattle.xfs_slots.proofs.Gathering.{slot_more, slots_end}
use Rattle.xfs_disk.proofs.Reading.{reads_on}
use Rattle.xfs_slots.proofs.Rests.{rest_next, rest_none, rest_of}
use Rattle.xfs_slots.proofs.clusters.see_block.Goals as goal

pub loop-slot-preserved : goal.loop-slot-preserved
loop-slot-preserved g c =
    let D = g.D.Disk in
    let v = volume_of c.args.g.now in
    let slot = c.loop-slot.slot in
    let before = c.loop-slot.invariant in
    record {
      held = λ image told. slot_more v image (inode_of v c.args.block slot) (rest_of slot 8 (inode_of v c.args.block)) (rest_of (slot + 1) 8 (inode_of v c.args.block))
          (held_in c.loop-slot.inodes) (held_in c.see_part.new.inodes) _ (rest_next slot 8 (inode_of v c.args.block) (search rules))
          (c.in-Ok.ensures.held image (before.disk.same_contents ∙ told)) (before.held image told);
      later = let up = before.later in let cause = c.in-Ok.ensures.cause in omega (arith, up, cause);
      disk = reads_on D.size D.holds D.write_faults D.writes D.tells_stops D.moment D.may_leave D.left_since c.args.disk.now c.loop-slot.disk c.see_part.new.disk before.disk c.in-Ok.ensures.disk;
      reads = let up = before.reads in let more = c.in-Ok.ensures.reads in omega (arith, up, more);
    }

pub returns-clause-held : goal.returns-clause-held
returns-clause-held g c = λ image told.
    let v = volume_of c.args.g.now in
    slots_end v image (rest_of c.loop-slot.slot 8 (inode_of v c.args.block)) (held_in c.loop-slot.inodes) _
    (rest_none c.loop-slot.slot 8 (inode_of v c.args.block) (search rules)) (c.loop-slot.invariant.held image told)

pub returns-clause-cause : goal.returns-clause-cause
returns-clause-cause g c = c.loop-slot.invariant.later

pub returns-clause-disk : goal.returns-clause-disk
returns-clause-disk g c = c.loop-slot.invariant.disk

pub returns-clause-reads : goal.returns-clause-reads
returns-clause-reads g c = c.loop-slot.invariant.reads

pub returns-in-Err : goal.returns-in-Err
returns-in-Err g c =
    let D = g.D.Disk in
    let before = c.loop-slot.invariant in
    let failed = c.in-Err.ensures in
    record {
      held = tt;
      cause = caused_on (D.faults c.args.disk.now) (D.faults c.loop-slot.disk) (D.faults c.see_part.new.disk) c.in-Err.fault before.later failed.cause;
      disk = reads_on D.size D.holds D.write_faults D.writes D.tells_stops D.moment D.may_leave D.left_since c.args.disk.now c.loop-slot.disk c.see_part.new.disk before.disk failed.disk;
      reads = let up = before.reads in let more = failed.reads in omega (arith, up, more);
    }

pub see_part-requires-clause-inside : goal.see_part-requires-clause-inside
see_part-requires-clause-inside g c = subst (λ (n : ℕ). c.args.g.now.dblocks ≤ n) (sym c.loop-slot.invariant.disk.same_size) c.requires.inside

pub see_part-requires-clause-held : goal.see_part-requires-clause-held
see_part-requires-clause-held g c = λ image told. c.requires.held image (sym c.loop-slot.invariant.disk.same_contents ∙ told)

use Rattle.std.proofs.Common.{ℕ, ◌≤◌, ◌+◌, ◌++◌, ◌∙◌, refl, ap, sym, subst, length, map, take, arith}
use Rattle.std.proofs.lemmas.List.{take_all}
use Rattle.xfs_geom.specs.Volumes.{volume_of}
use Rattle.xfs_slots.specs.Facts.{slot_fact}
use Rattle.xfs_slots.specs.Gathered.{gathered, gathered_both, held_in, inodes_of_blocks}
use Rattle.xfs_slots.proofs.Turns.{facts_joined, facts_start, held_joined, held_start, inodes_split}
use Rattle.xfs_disk.proofs.Reading.{reads_none, reads_on}
use Rattle.xfs_slots.proofs.Causes.{caused_on}
use Rattle.xfs_scan.specs.Begun.{all_begin}
use Rattle.xfs_scan.proofs.Begun.{begun_on}
use Rattle.xfs_scan.proofs.Counts.{counted, later, still}
use Rattle.xfs_scan.proofs.scan.scan_blocks.Goals as goal

pub loop-start-init : goal.loop-start-init
loop-start-init g c =
    let D = g.D.Disk in
    let v = volume_of c.args.g.now in
    record {
      within = omega arith;
      slots = λ image told. facts_start v image c.args.slots.now.items;
      inodes = λ image told. held_start v image (held_in c.args.inodes.now);
      begun = λ so image told. refl;
      later = omega arith;
      disk = reads_none D.size D.holds D.write_faults D.writes D.tells_stops D.moment D.may_leave D.left_since c.args.disk.now;
      reads = omega arith;
    }

pub scan_round-requires-clause-volume : goal.scan_round-requires-clause-volume
scan_round-requires-clause-volume g c = λ κs lives.
    c.round_from-round.ensures.low c.args.g.now.dblocks c.requires.volume

pub loop-start-preserved : goal.loop-start-preserved
loop-start-preserved g c =
    let D = g.D.Disk in
    let v = volume_of c.args.g.now in
    let blocks = c.args.blocks.now in
    let start = c.loop-start.start in
    let round = c.round_from-round.result.now in
    let before = c.loop-start.invariant in
    let split = inodes_split v (take start blocks) round (take (start + length round) blocks) c.round_from-round.ensures.next in
    record {
      within = c.round_from-round.ensures.within;
      slots = λ image told. facts_joined v image (inodes_of_blocks v (take start blocks)) (inodes_of_blocks v round) (inodes_of_blocks v (take (start + length round) blocks))
          c.args.slots.now.items c.loop-start.slots.items c.scan_round.new.slots.items split (before.slots image told)
          (c.in-Ok-scan_round.ensures.slots image (before.disk.same_contents ∙ told));
      inodes = λ image told. held_joined v image (inodes_of_blocks v (take start blocks)) (inodes_of_blocks v round) (inodes_of_blocks v (take (start + length round) blocks))
          (held_in c.args.inodes.now) (held_in c.loop-start.inodes) (held_in c.scan_round.new.inodes) split (before.inodes image told)
          (c.in-Ok-scan_round.ensures.inodes image (before.disk.same_contents ∙ told));
      begun = λ so image told.
          begun_on image c.in-Ok-scan_round.used (take start blocks) round (take (start + length round) blocks) c.round_from-round.ensures.next
          (before.begun (c.stays_begun-begun.ensures.before so) image told) (c.in-Ok-scan_round.ensures.bank image (before.disk.same_contents ∙ told)) (c.stays_begun-begun.ensures.here so);
      later = later (D.faults c.args.disk.now) (D.faults c.loop-start.disk) (D.faults c.scan_round.new.disk) before.later c.in-Ok-scan_round.ensures.cause;
      disk = reads_on D.size D.holds D.write_faults D.writes D.tells_stops D.moment D.may_leave D.left_since c.args.disk.now c.loop-start.disk c.scan_round.new.disk before.disk c.in-Ok-scan_round.ensures.disk;
      reads = counted (D.reads c.args.disk.now) (D.reads c.loop-start.disk) (D.reads c.scan_round.new.disk) c.args.steps.now c.loop-start.steps c.scan_round.new.steps before.reads c.in-Ok-scan_round.ensures.reads;
    }

pub returns : goal.returns
returns g c =
    record {
      slots = λ image told.
          let v = volume_of c.args.g.now in
          let blocks = c.args.blocks.now in
          c.loop-start.invariant.slots image told
          ∙ ap (λ blocks. c.args.slots.now.items ++ map (slot_fact v image) (inodes_of_blocks v blocks)) (take_all c.loop-start.start blocks (omega arith));
      inodes = λ image told.
          let v = volume_of c.args.g.now in
          let blocks = c.args.blocks.now in
          c.loop-start.invariant.inodes image told
          ∙ ap (λ blocks. gathered_both (held_in c.args.inodes.now) (gathered v image (inodes_of_blocks v blocks))) (take_all c.loop-start.start blocks (omega arith));
      begun = λ so image told.
          ap (all_begin image) (sym (take_all c.loop-start.start c.args.blocks.now (omega arith))) ∙ c.loop-start.invariant.begun so image told;
      cause = c.loop-start.invariant.later;
      disk = c.loop-start.invariant.disk;
      reads = c.loop-start.invariant.reads;
    }

pub scan_round-requires-clause-inside : goal.scan_round-requires-clause-inside
scan_round-requires-clause-inside g c = λ κs lives. subst (λ (n : ℕ). c.args.g.now.dblocks ≤ n) (sym c.loop-start.invariant.disk.same_size) c.requires.inside

pub returns-in-Err : goal.returns-in-Err
returns-in-Err g c =
    let D = g.D.Disk in
    record { slots = tt; inodes = tt; begun = tt; cause = still _; disk = reads_none D.size D.holds D.write_faults D.writes D.tells_stops D.moment D.may_leave D.left_since c.args.disk.now; reads = still _ }

pub returns-in-Err-scan_round : goal.returns-in-Err-scan_round
returns-in-Err-scan_round g c =
    let D = g.D.Disk in
    let before = c.loop-start.invariant in
    let failed = c.in-Err-scan_round.ensures in
    record {
      slots = tt;
      inodes = tt;
      begun = tt;
      cause = caused_on (D.faults c.args.disk.now) (D.faults c.loop-start.disk) (D.faults c.scan_round.new.disk) c.in-Err-scan_round.fault before.later failed.cause;
      disk = reads_on D.size D.holds D.write_faults D.writes D.tells_stops D.moment D.may_leave D.left_since c.args.disk.now c.loop-start.disk c.scan_round.new.disk before.disk failed.disk;
      reads = counted (D.reads c.args.disk.now) (D.reads c.loop-start.disk) (D.reads c.scan_round.new.disk) c.args.steps.now c.loop-start.steps c.scan_round.new.steps before.reads failed.reads;
    }

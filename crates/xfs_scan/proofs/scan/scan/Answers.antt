use Rattle.std.proofs.Common.{ℕ, List, ◌++◌, map, sym, ap, ◌∙◌}
use Rattle.xfs_geom.specs.Volumes.{volume_of}
use Rattle.xfs_slots.specs.Facts.{slot_fact}
use Rattle.xfs_slots.specs.Gathered.{Gathered, gathered, inodes_of_blocks, gathered_both}
use Rattle.xfs_rounds.specs.declared.facts.SlotFact.{SlotFact}
use Rattle.xfs_slots.proofs.Rests.{inodes_of_candidates}
use Rattle.xfs_disk.proofs.Reading.{reads_none}
use Rattle.xfs_scan.specs.Begun.{all_begin}
use Rattle.xfs_scan.proofs.Counts.{still}
use Rattle.xfs_scan.proofs.scan.scan.Goals as goal

pub scan_blocks-requires-clause-inside : goal.scan_blocks-requires-clause-inside
scan_blocks-requires-clause-inside g c = λ κs lives. c.requires.inside

pub returns-in-Err : goal.returns-in-Err
returns-in-Err g c =
    let D = g.D.Disk in
    record { slots = tt; inodes = tt; begun = tt; cause = still _; disk = reads_none D.size D.holds D.write_faults D.writes D.tells_stops D.moment D.may_leave D.left_since c.args.disk.now; reads = still _ }

pub returns-in-Err-room_for_slots : goal.returns-in-Err-room_for_slots
returns-in-Err-room_for_slots g c =
    let D = g.D.Disk in
    record { slots = tt; inodes = tt; begun = tt; cause = still _; disk = reads_none D.size D.holds D.write_faults D.writes D.tells_stops D.moment D.may_leave D.left_since c.args.disk.now; reads = still _ }

pub returns-in-Ok-scan_blocks : goal.returns-in-Ok-scan_blocks
returns-in-Ok-scan_blocks g c =
    let found = c.in-Ok-scan_blocks.ensures in
    record {
      slots = λ image told.
          let v = volume_of c.args.g.now in
          c.in-Ok-scan_blocks.ensures.slots image told
          ∙ ap (λ (before : List SlotFact). before ++ map (slot_fact v image) (inodes_of_blocks v c.deref.result.now)) c.in-Ok-room_for_slots.ensures
          ∙ ap (λ (blocks : List ℕ). map (slot_fact v image) (inodes_of_blocks v blocks)) (c.deref.ensures.value ∙ c.in-Ok.ensures.blocks)
          ∙ ap (map (slot_fact v image)) (inodes_of_candidates v c.args.clusters.now);
      inodes = λ image told.
          let v = volume_of c.args.g.now in
          c.in-Ok-scan_blocks.ensures.inodes image told
          ∙ ap (λ (before : Gathered). gathered_both before (gathered v image (inodes_of_blocks v c.deref.result.now))) c.new-inodes.ensures
          ∙ ap (λ (blocks : List ℕ). gathered v image (inodes_of_blocks v blocks)) (c.deref.ensures.value ∙ c.in-Ok.ensures.blocks)
          ∙ ap (gathered v image) (inodes_of_candidates v c.args.clusters.now);
      begun = λ so image told. ap (all_begin image) (sym (c.deref.ensures.value ∙ c.in-Ok.ensures.blocks)) ∙ found.begun so image told;
      cause = found.cause;
      disk = found.disk;
      reads = found.reads;
    }

pub returns : goal.returns
returns g c =
    let found = c.in-Err-scan_blocks.ensures in
    record { slots = tt; inodes = tt; begun = tt; cause = found.cause; disk = found.disk; reads = found.reads }

use Rattle.std.proofs.Common.{ℕ, ◌≤◌, Option, sym, subst, ◌∙◌}
use Rattle.std.specs.Option.{ForSome}
use Rattle.std.specs.Prelude.{IfOk}
use Rattle.xfs_geom.specs.Volumes.{volume_of}
use Rattle.xfs_disk.specs.Blocks.{Image}
use Rattle.xfs_slots.specs.Gathered.{held_in}
use Rattle.xfs_disk.proofs.Reading.{reads_on}
use Rattle.xfs_slots.proofs.Kept.{facts_of_candidates}
use Rattle.xfs_groups.specs.Answers.{EndBelow}
use Rattle.xfs_scan.specs.Evidence.{IsEvidence}
use Rattle.xfs_scan.specs.Refused.{refused_late}
use Rattle.xfs_scan.specs.declared.evidence.Evidence.{Evidence}
use Rattle.xfs_scan.proofs.Answered.{part_caused, part_refuses, scan_caused}
use Rattle.xfs_scan.proofs.Counts.{counted}
use Rattle.xfs_scan.proofs.Refusing.{of_candidates}
use Rattle.xfs_scan.proofs.gather_evidence.gather_files.Goals as goal

pub scan-requires-clause-inside : goal.scan-requires-clause-inside
scan-requires-clause-inside g c = λ κs lives. c.requires.inside

pub scan-requires-clause-volume : goal.scan-requires-clause-volume
scan-requires-clause-volume g c = λ κs lives. subst (EndBelow c.args.g.now.dblocks) (sym c.as_slice.ensures) c.requires.low

pub gather_scanned-requires-clause-inside : goal.gather_scanned-requires-clause-inside
gather_scanned-requires-clause-inside g c = subst (λ (n : ℕ). c.args.g.now.dblocks ≤ n) (sym c.in-Ok.ensures.disk.same_size) c.requires.inside

pub gather_scanned-requires-clause-seen : goal.gather_scanned-requires-clause-seen
gather_scanned-requires-clause-seen g c = λ image told. c.requires.seen image (sym c.in-Ok.ensures.disk.same_contents ∙ told)

pub gather_scanned-requires-clause-low : goal.gather_scanned-requires-clause-low
gather_scanned-requires-clause-low g c = c.requires.low

pub gather_scanned-requires-clause-slots : goal.gather_scanned-requires-clause-slots
gather_scanned-requires-clause-slots g c = λ image told.
    let before = sym c.in-Ok.ensures.disk.same_contents ∙ told in
    facts_of_candidates (volume_of c.args.g.now) image c.as_slice.result.now c.in-Ok.scanned.slots.items
    (c.as_slice.ensures ∙ (c.requires.seen image before).clusters) (c.in-Ok.ensures.slots image before)

pub gather_scanned-requires-clause-inodes : goal.gather_scanned-requires-clause-inodes
gather_scanned-requires-clause-inodes g c = λ image told.
    let before = sym c.in-Ok.ensures.disk.same_contents ∙ told in
    of_candidates (volume_of c.args.g.now) image c.as_slice.result.now (held_in c.in-Ok.scanned.inodes)
    (c.as_slice.ensures ∙ (c.requires.seen image before).clusters) (c.in-Ok.ensures.inodes image before)

pub returns-in-Ok : goal.returns-in-Ok
returns-in-Ok g c =
    let D = g.D.Disk in
    let after = c.gather_scanned.ensures in
    let result = c.gather_scanned.result in
    let same = c.in-Ok.ensures.disk.same_contents in
    record {
      evidence = subst (λ (held : Option Image). IfOk result (λ (e : Evidence). ForSome held (λ image. IsEvidence c.args.g.now image e))) same after.evidence;
      refused = λ image told. after.refused image (same ∙ told);
      cause = scan_caused (D.faults c.args.disk.now) (D.faults c.scan.new.disk) (D.faults c.gather_scanned.new.disk) result c.in-Ok.ensures.cause after.cause;
      disk = reads_on D.size D.holds D.write_faults D.writes D.tells_stops D.moment D.may_leave D.left_since c.args.disk.now c.scan.new.disk c.gather_scanned.new.disk c.scan.ensures.disk after.disk;
      reads = counted (D.reads c.args.disk.now) (D.reads c.scan.new.disk) (D.reads c.gather_scanned.new.disk) c.args.steps.now c.scan.new.steps c.gather_scanned.new.steps c.scan.ensures.reads after.reads;
    }

pub returns-in-Err : goal.returns-in-Err
returns-in-Err g c =
    let D = g.D.Disk in
    record {
      evidence = tt;
      refused = λ image told. part_refuses (refused_late (volume_of c.args.g.now) image) c.in-Err.error c.answer.result c.answer.ensures;
      cause = part_caused (D.faults c.args.disk.now) (D.faults c.scan.new.disk) c.in-Err.error c.answer.result c.answer.ensures c.in-Err.ensures.cause;
      disk = c.scan.ensures.disk;
      reads = c.scan.ensures.reads;
    }

use Rattle.std.proofs.Common.{ℕ, ◌≤◌, Option, sym, subst, ◌∙◌}
use Rattle.std.specs.Option.{ForSome}
use Rattle.std.specs.Prelude.{IfOk}
use Rattle.xfs_geom.specs.Volumes.{volume_of}
use Rattle.xfs_disk.specs.Blocks.{Image}
use Rattle.xfs_disk.proofs.Reading.{reads_on}
use Rattle.xfs_scan.specs.Answers.{HasRefused, IsRefusal}
use Rattle.xfs_scan.specs.Evidence.{IsEvidence}
use Rattle.xfs_scan.specs.declared.evidence.Evidence.{Evidence}
use Rattle.xfs_scan.specs.declared.faults.ScanFault.{ScanFault}
use Rattle.xfs_scan.proofs.Answered.{scan_caused}
use Rattle.xfs_scan.proofs.Counts.{counted}
use Rattle.xfs_scan.proofs.Refusing.{late_held}
use Rattle.xfs_scan.proofs.gather_evidence.gather_scanned.Goals as goal

pub prepare-requires : goal.prepare-requires
prepare-requires g c = record { inside = c.requires.inside }

pub gather_prepared-requires-clause-inside : goal.gather_prepared-requires-clause-inside
gather_prepared-requires-clause-inside g c = subst (λ (n : ℕ). c.args.g.now.dblocks ≤ n) (sym c.in-Ok.ensures.disk.same_size) c.requires.inside

pub gather_prepared-requires-clause-seen : goal.gather_prepared-requires-clause-seen
gather_prepared-requires-clause-seen g c = λ image told. c.requires.seen image (sym c.in-Ok.ensures.disk.same_contents ∙ told)

pub gather_prepared-requires-clause-low : goal.gather_prepared-requires-clause-low
gather_prepared-requires-clause-low g c = c.requires.low

pub gather_prepared-requires-clause-slots : goal.gather_prepared-requires-clause-slots
gather_prepared-requires-clause-slots g c = λ image told. c.requires.slots image (sym c.in-Ok.ensures.disk.same_contents ∙ told)

pub gather_prepared-requires-clause-inodes : goal.gather_prepared-requires-clause-inodes
gather_prepared-requires-clause-inodes g c = λ image told. c.requires.inodes image (sym c.in-Ok.ensures.disk.same_contents ∙ told)

pub gather_prepared-requires-clause-bare : goal.gather_prepared-requires-clause-bare
gather_prepared-requires-clause-bare g c = c.in-Ok.ensures.bare

pub gather_prepared-requires-clause-log : goal.gather_prepared-requires-clause-log
gather_prepared-requires-clause-log g c = λ image told. c.in-Ok.ensures.log image (sym c.in-Ok.ensures.disk.same_contents ∙ told)

pub returns-in-Ok : goal.returns-in-Ok
returns-in-Ok g c =
    let D = g.D.Disk in
    let after = c.gather_prepared.ensures in
    let result = c.gather_prepared.result in
    let same = c.in-Ok.ensures.disk.same_contents in
    record {
      evidence = subst (λ (held : Option Image). IfOk result (λ (e : Evidence). ForSome held (λ image. IsEvidence c.args.g.now image e))) same after.evidence;
      refused = λ image told.
          let late = late_held (volume_of c.args.g.now) image c.args.scanned.inodes (c.requires.inodes image told) in
          subst (λ (due : Option ScanFault). HasRefused due result) (sym c.in-Ok.ensures.refused ∙ late) after.refused;
      cause = scan_caused (D.faults c.args.disk.now) (D.faults c.prepare.new.disk) (D.faults c.gather_prepared.new.disk) result c.in-Ok.ensures.cause after.cause;
      disk = reads_on D.size D.holds D.write_faults D.writes D.tells_stops D.moment D.may_leave D.left_since c.args.disk.now c.prepare.new.disk c.gather_prepared.new.disk c.prepare.ensures.disk after.disk;
      reads = counted (D.reads c.args.disk.now) (D.reads c.prepare.new.disk) (D.reads c.gather_prepared.new.disk) c.args.steps.now c.prepare.new.steps c.gather_prepared.new.steps c.prepare.ensures.reads after.reads;
    }

pub returns-in-Err : goal.returns-in-Err
returns-in-Err g c = record {
  evidence = tt;
  refused = λ image told.
      let late = late_held (volume_of c.args.g.now) image c.args.scanned.inodes (c.requires.inodes image told) in
      subst (λ (due : Option ScanFault). IsRefusal due c.in-Err.fault) late c.in-Err.ensures.refused;
  cause = c.in-Err.ensures.cause;
  disk = c.prepare.ensures.disk;
  reads = c.prepare.ensures.reads;
}

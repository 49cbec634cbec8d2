use Rattle.std.proofs.Common.{◌≡◌, ℕ, ◌≤◌, Option, None, sym, subst, ◌∙◌}
use Rattle.std.specs.Option.{ForSome}
use Rattle.std.specs.Prelude.{IfOk}
use Rattle.xfs_disk.specs.Blocks.{Image}
use Rattle.xfs_disk.proofs.Reading.{reads_on}
use Rattle.xfs_scan.specs.Evidence.{IsEvidence}
use Rattle.xfs_scan.specs.declared.evidence.Evidence.{Evidence}
use Rattle.xfs_scan.proofs.Answered.{scan_caused}
use Rattle.xfs_scan.proofs.Counts.{counted}
use Rattle.xfs_scan.proofs.gather_evidence.gather.Goals as goal

pub returns-in-Some : goal.returns-in-Some
returns-in-Some g c = record {
  evidence = rw c.in-Some.is at c.in-Ok.ensures.evidence;
  refused = λ image told. rw c.in-Some.is at (c.in-Ok.ensures.refused image told);
  cause = c.in-Ok.ensures.cause;
  disk = c.gather_named.ensures.disk;
  reads = c.gather_named.ensures.reads;
}

pub gather_looked-requires-clause-inside : goal.gather_looked-requires-clause-inside
gather_looked-requires-clause-inside g c = λ κs lives. subst (λ (n : ℕ). c.args.g.now.dblocks ≤ n) (sym c.gather_named.ensures.disk.same_size) c.requires.inside

pub returns-in-None : goal.returns-in-None
returns-in-None g c =
    let D = g.D.Disk in
    let after = c.gather_looked.ensures in
    let result = c.gather_looked.result in
    let same = c.gather_named.ensures.disk.same_contents in
    record {
      evidence = subst (λ (held : Option Image). IfOk result (λ (e : Evidence). ForSome held (λ image. IsEvidence c.args.g.now image e))) same after.evidence;
      refused = λ image told. after.refused image (same ∙ told);
      cause = scan_caused (D.faults c.args.disk.now) (D.faults c.gather_named.new.disk) (D.faults c.gather_looked.new.disk) result c.in-Ok.ensures.cause after.cause;
      disk = reads_on D.size D.holds D.write_faults D.writes D.tells_stops D.moment D.may_leave D.left_since c.args.disk.now c.gather_named.new.disk c.gather_looked.new.disk c.gather_named.ensures.disk after.disk;
      reads = counted (D.reads c.args.disk.now) (D.reads c.gather_named.new.disk) (D.reads c.gather_looked.new.disk) c.args.steps.now c.gather_named.new.steps c.gather_looked.new.steps c.gather_named.ensures.reads after.reads;
    }

pub returns-in-Err : goal.returns-in-Err
returns-in-Err g c = record {
  evidence = tt;
  refused = λ image told. c.in-Err.ensures.refused image told;
  cause = c.in-Err.ensures.cause;
  disk = c.in-Err.ensures.disk;
  reads = c.in-Err.ensures.reads;
}

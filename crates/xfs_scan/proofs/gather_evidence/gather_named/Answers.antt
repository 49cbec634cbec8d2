use Rattle.std.proofs.Common.{◌≡◌, ◌≤◌, ◌*◌, ◌^◌, ℕ, Option, List, length, sym, subst, ap, ◌∙◌, arith}
use Rattle.std.specs.Option.{ForSome}
use Rattle.std.specs.Prelude.{IfOk, IfSome}
use Rattle.xfs_disk.specs.Blocks.{Image}
use Rattle.xfs_disk.proofs.Reading.{reads_on}
use Rattle.xfs_volume.specs.declared.clusters.ClusterRec.{ClusterRec}
use Rattle.xfs_image.specs.Candidates.{ClustersAscend}
use Rattle.xfs_groups.specs.Answers.{EndBelow, IsGroupsCause}
use Rattle.xfs_scan.specs.Evidence.{IsEvidence}
use Rattle.xfs_scan.specs.declared.evidence.Evidence.{Evidence}
use Rattle.xfs_scan.proofs.Answered.{scan_caused}
use Rattle.xfs_scan.proofs.Counts.{counted}
use Rattle.xfs_scan.proofs.gather_evidence.gather_named.Goals as goal

pub count_inodes-requires-clause-ascend : goal.count_inodes-requires-clause-ascend
count_inodes-requires-clause-ascend g c = subst (ClustersAscend 0) (sym c.as_slice.ensures) c.in-Ok.ensures.ascend

pub count_inodes-requires-clause-inside : goal.count_inodes-requires-clause-inside
count_inodes-requires-clause-inside g c = subst (EndBelow c.args.g.now.dblocks) (sym c.as_slice.ensures) c.in-Ok.ensures.low

pub gather_begun-requires-clause-inside : goal.gather_begun-requires-clause-inside
gather_begun-requires-clause-inside g c = λ κs lives. subst (λ (n : ℕ). c.args.g.now.dblocks ≤ n) (sym c.in-Ok.ensures.disk.same_size) c.requires.inside

pub gather_begun-requires-clause-seen : goal.gather_begun-requires-clause-seen
gather_begun-requires-clause-seen g c = λ κs lives image told bare.
    let before = sym c.in-Ok.ensures.disk.same_contents ∙ told in
    record {
      groups = c.in-Ok.ensures.groups image before;
      clusters = c.in-Ok.ensures.clusters image before (λ unlooked. bare);
      trees = c.in-Ok.ensures.trees image before;
    }

pub gather_begun-requires-clause-low : goal.gather_begun-requires-clause-low
gather_begun-requires-clause-low g c = λ κs lives. c.in-Ok.ensures.low

pub gather_begun-requires-clause-few : goal.gather_begun-requires-clause-few
gather_begun-requires-clause-few g c = λ κs lives.
    subst (λ (clusters : List ClusterRec). 32 * length clusters ≤ 2 ^ 21) c.as_slice.ensures (subst (λ (n : ℕ). n ≤ 2 ^ 21) c.count_inodes.ensures c.if-count_inodes-gt-MOST_INODES.false)

pub returns-in-Err-ReadFault : goal.returns-in-Err-ReadFault
returns-in-Err-ReadFault g c = record {
  evidence = tt;
  refused = λ image told. tt;
  cause = subst (IsGroupsCause (g.D.Disk.faults c.args.disk.now) (g.D.Disk.faults c.see_groups.new.disk)) c.in-Err-ReadFault.field-0-is c.in-Err-ReadFault.ensures.cause;
  disk = c.see_groups.ensures.disk;
  reads = c.see_groups.ensures.reads;
}

pub returns-in-Err-NoMemory : goal.returns-in-Err-NoMemory
returns-in-Err-NoMemory g c = record {
  evidence = tt;
  refused = λ image told. tt;
  cause = subst (IsGroupsCause (g.D.Disk.faults c.args.disk.now) (g.D.Disk.faults c.see_groups.new.disk)) c.in-Err-NoMemory.field-0-is c.in-Err-NoMemory.ensures.cause;
  disk = c.see_groups.ensures.disk;
  reads = c.see_groups.ensures.reads;
}

pub returns : goal.returns
returns g c =
    let D = g.D.Disk in
    let after = c.gather_begun.ensures in
    let result = c.gather_begun.result in
    let same = c.in-Ok.ensures.disk.same_contents in
    record {
      evidence = subst (λ (held : Option Image). IfOk result (λ (found : Option Evidence). IfSome found (λ (e : Evidence). ForSome held (λ image. IsEvidence c.args.g.now image e)))) same after.evidence;
      refused = λ image told. after.refused image (same ∙ told);
      cause = scan_caused (D.faults c.args.disk.now) (D.faults c.see_groups.new.disk) (D.faults c.gather_begun.new.disk) result c.in-Ok.ensures.cause after.cause;
      disk = reads_on D.size D.holds D.write_faults D.writes D.tells_stops D.moment D.may_leave D.left_since c.args.disk.now c.see_groups.new.disk c.gather_begun.new.disk c.see_groups.ensures.disk after.disk;
      reads = counted (D.reads c.args.disk.now) (D.reads c.see_groups.new.disk) (D.reads c.gather_begun.new.disk) c.args.steps.now c.see_groups.new.steps c.gather_begun.new.steps c.see_groups.ensures.reads after.reads;
    }

pub returns-then-count_inodes-gt-MOST_INODES : goal.returns-then-count_inodes-gt-MOST_INODES
returns-then-count_inodes-gt-MOST_INODES g c = record {
  evidence = tt;
  refused = λ image told. tt;
  cause = c.in-Ok.ensures.cause;
  disk = c.see_groups.ensures.disk;
  reads = c.see_groups.ensures.reads;
}

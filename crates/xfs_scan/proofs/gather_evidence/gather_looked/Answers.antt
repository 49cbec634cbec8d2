use Rattle.std.proofs.Common.{◌≤◌, ℕ, Option, sym, subst, ◌∙◌}
use Rattle.xfs_geom.specs.Volumes.{volume_of}
use Rattle.xfs_disk.specs.Blocks.{Image}
use Rattle.xfs_disk.proofs.Reading.{reads_on}
use Rattle.xfs_image.specs.Candidates.{ClustersAscend}
use Rattle.xfs_groups.specs.Answers.{EndBelow, IsGroupsCause}
use Rattle.std.specs.Option.{ForSome}
use Rattle.std.specs.Prelude.{IfOk}
use Rattle.xfs_scan.specs.Answers.{HasRefused}
use Rattle.xfs_scan.specs.Evidence.{IsEvidence}
use Rattle.xfs_scan.specs.declared.evidence.Evidence.{Evidence}
use Rattle.xfs_scan.specs.declared.faults.ScanFault.{ScanFault}
use Rattle.xfs_scan.proofs.Answered.{scan_caused}
use Rattle.xfs_scan.proofs.Counts.{counted}
use Rattle.xfs_scan.proofs.Refusing.{refused_few, refused_many}
use Rattle.xfs_scan.proofs.gather_evidence.gather_looked.Goals as goal

pub count_inodes-count-requires-clause-ascend : goal.count_inodes-count-requires-clause-ascend
count_inodes-count-requires-clause-ascend g c = subst (ClustersAscend 0) (sym c.as_slice.ensures) c.in-Ok.ensures.ascend

pub count_inodes-count-requires-clause-inside : goal.count_inodes-count-requires-clause-inside
count_inodes-count-requires-clause-inside g c = subst (EndBelow c.args.g.now.dblocks) (sym c.as_slice.ensures) c.in-Ok.ensures.low

pub gather_files-requires-clause-inside : goal.gather_files-requires-clause-inside
gather_files-requires-clause-inside g c = λ κs lives. subst (λ (n : ℕ). c.args.g.now.dblocks ≤ n) (sym c.in-Ok.ensures.disk.same_size) c.requires.inside

pub gather_files-requires-clause-seen : goal.gather_files-requires-clause-seen
gather_files-requires-clause-seen g c = λ κs lives image told.
    let before = sym c.in-Ok.ensures.disk.same_contents ∙ told in
    record { groups = c.in-Ok.ensures.groups image before; clusters = c.in-Ok.ensures.clusters image before (λ looks. absurd (cc)); trees = c.in-Ok.ensures.trees image before }

pub gather_files-requires-clause-low : goal.gather_files-requires-clause-low
gather_files-requires-clause-low g c = λ κs lives. c.in-Ok.ensures.low

pub returns-in-Err-ReadFault : goal.returns-in-Err-ReadFault
returns-in-Err-ReadFault g c =
    let D = g.D.Disk in
    record {
      evidence = tt;
      refused = λ image told. tt;
      cause = subst (IsGroupsCause (D.faults c.args.disk.now) (D.faults c.see_groups.new.disk)) c.in-Err-ReadFault.field-0-is c.in-Err-ReadFault.ensures.cause;
      disk = c.see_groups.ensures.disk;
      reads = c.see_groups.ensures.reads;
    }

pub returns-in-Err-NoMemory : goal.returns-in-Err-NoMemory
returns-in-Err-NoMemory g c =
    let D = g.D.Disk in
    record {
      evidence = tt;
      refused = λ image told. tt;
      cause = subst (IsGroupsCause (D.faults c.args.disk.now) (D.faults c.see_groups.new.disk)) c.in-Err-NoMemory.field-0-is c.in-Err-NoMemory.ensures.cause;
      disk = c.see_groups.ensures.disk;
      reads = c.see_groups.ensures.reads;
    }

pub returns : goal.returns
returns g c =
    let D = g.D.Disk in
    let v = volume_of c.args.g.now in
    let after = c.gather_files.ensures in
    let result = c.gather_files.result in
    let same = c.in-Ok.ensures.disk.same_contents in
    record {
      evidence = subst (λ (held : Option Image). IfOk result (λ (e : Evidence). ForSome held (λ image. IsEvidence c.args.g.now image e))) same after.evidence;
      refused = λ image told.
          subst (λ (due : Option ScanFault). HasRefused due result)
          (sym (refused_few v image c.as_slice.result.now c.count_inodes-count.result (c.as_slice.ensures ∙ c.in-Ok.ensures.clusters image told (λ looks. absurd (cc))) c.count_inodes-count.ensures c.if-count-gt-MOST_INODES.false))
          (after.refused image (same ∙ told));
      cause = scan_caused (D.faults c.args.disk.now) (D.faults c.see_groups.new.disk) (D.faults c.gather_files.new.disk) result c.in-Ok.ensures.cause after.cause;
      disk = reads_on D.size D.holds D.write_faults D.writes D.tells_stops D.moment D.may_leave D.left_since c.args.disk.now c.see_groups.new.disk c.gather_files.new.disk c.see_groups.ensures.disk after.disk;
      reads = counted (D.reads c.args.disk.now) (D.reads c.see_groups.new.disk) (D.reads c.gather_files.new.disk) c.args.steps.now c.see_groups.new.steps c.gather_files.new.steps c.see_groups.ensures.reads after.reads;
    }

pub returns-then-count-gt-MOST_INODES : goal.returns-then-count-gt-MOST_INODES
returns-then-count-gt-MOST_INODES g c =
    let v = volume_of c.args.g.now in
    record {
      evidence = tt;
      refused = λ image told.
          refused_many v image c.as_slice.result.now c.count_inodes-count.result (c.as_slice.ensures ∙ c.in-Ok.ensures.clusters image told (λ looks. absurd (cc))) c.count_inodes-count.ensures c.if-count-gt-MOST_INODES.true;
      cause = c.in-Ok.ensures.cause;
      disk = c.see_groups.ensures.disk;
      reads = c.see_groups.ensures.reads;
    }

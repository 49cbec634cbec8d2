use Rattle.std.proofs.Common.{◌≡◌, Bool, true, false, not, ℕ, ◌*◌, ◌^◌, ◌≤◌, Option, List, Some, length, refl, sym, subst, ◌∙◌}
use Rattle.std.specs.List.{flat_map}
use Rattle.std.specs.Option.{ForSome}
use Rattle.xfs_geom.specs.Volumes.{volume_of}
use Rattle.xfs_geom.specs.declared.geometry.Geometry.{Geometry}
use Rattle.xfs_image.specs.Slots.{cluster_blocks}
use Rattle.xfs_groups.specs.declared.groups.Groups.{Groups}
use Rattle.xfs_disk.specs.Blocks.{Image}
use Rattle.xfs_slots.specs.Gathered.{held_in}
use Rattle.xfs_disk.proofs.Reading.{reads_on}
use Rattle.xfs_slots.proofs.Kept.{facts_of_candidates}
use Rattle.xfs_volume.specs.declared.clusters.ClusterRec.{ClusterRec}
use Rattle.xfs_groups.specs.Answers.{EndBelow, hold_no_object}
use Rattle.xfs_scan.specs.Answers.{IsRefusal}
use Rattle.xfs_scan.specs.Begun.{all_begin}
use Rattle.xfs_scan.specs.Evidence.{AreSeen}
use Rattle.xfs_scan.specs.Refused.{refused, refused_late}
use Rattle.xfs_scan.specs.declared.faults.ScanFault.{ScanFault}
use Rattle.xfs_scan.proofs.Answered.{fault_caused, part_caused, part_refuses}
use Rattle.xfs_scan.proofs.Begun.{none_held}
use Rattle.xfs_scan.proofs.Counts.{counted, later}
use Rattle.xfs_scan.proofs.Refusing.{of_candidates, refused_few}
use Rattle.xfs_scan.proofs.gather_evidence.gather_begun.Goals as goal

pub scan-requires-clause-inside : goal.scan-requires-clause-inside
scan-requires-clause-inside g c = λ κs lives. c.requires.inside

pub scan-requires-clause-volume : goal.scan-requires-clause-volume
scan-requires-clause-volume g c = λ κs lives. subst (EndBelow c.args.g.now.dblocks) (sym c.as_slice.ensures) c.requires.low

-- the clusters are those whose slots are read
exact : (g : Geometry) (image : Image) (seen : Groups) (clusters : List ClusterRec) (begun : Bool) (held : Option Image)
    → (hold_no_object (volume_of g) image seen.clusters ≡ true → AreSeen g image seen) → clusters ≡ seen.clusters → not begun ≡ false → held ≡ Some image
    → (begun ≡ true → ForSome held (λ image. all_begin image (flat_map (λ (c : ClusterRec). cluster_blocks c.block) clusters) ≡ true)) → AreSeen g image seen
exact g image seen clusters begun held due same is told found =
    due (subst (λ (cs : List ClusterRec). hold_no_object (volume_of g) image cs ≡ true) same (none_held (volume_of g) image clusters (found (begun_is begun is) image told)))
  where
    begun_is : (b : Bool) → not b ≡ false → b ≡ true
    begun_is true none = refl
    begun_is false none = sym none

pub gather_scanned-requires-clause-inside : goal.gather_scanned-requires-clause-inside
gather_scanned-requires-clause-inside g c = subst (λ (n : ℕ). c.args.g.now.dblocks ≤ n) (sym c.in-Ok.ensures.disk.same_size) c.requires.inside

pub gather_scanned-requires-clause-seen : goal.gather_scanned-requires-clause-seen
gather_scanned-requires-clause-seen g c = λ image told.
    let before = sym c.in-Ok.ensures.disk.same_contents ∙ told in
    exact c.args.g.now image c.args.seen c.as_slice.result.now c.in-Ok.scanned.begun (g.D.Disk.holds c.args.disk.now) (c.requires.seen image before) c.as_slice.ensures
    c.if-not-scanned.false before c.in-Ok.ensures.begun

pub gather_scanned-requires-clause-low : goal.gather_scanned-requires-clause-low
gather_scanned-requires-clause-low g c = c.requires.low

pub gather_scanned-requires-clause-slots : goal.gather_scanned-requires-clause-slots
gather_scanned-requires-clause-slots g c = λ image told.
    let before = sym c.in-Ok.ensures.disk.same_contents ∙ told in
    let all = exact c.args.g.now image c.args.seen c.as_slice.result.now c.in-Ok.scanned.begun (g.D.Disk.holds c.args.disk.now) (c.requires.seen image before) c.as_slice.ensures
    c.if-not-scanned.false before c.in-Ok.ensures.begun in
    facts_of_candidates (volume_of c.args.g.now) image c.as_slice.result.now c.in-Ok.scanned.slots.items (c.as_slice.ensures ∙ all.clusters) (c.in-Ok.ensures.slots image before)

pub gather_scanned-requires-clause-inodes : goal.gather_scanned-requires-clause-inodes
gather_scanned-requires-clause-inodes g c = λ image told.
    let before = sym c.in-Ok.ensures.disk.same_contents ∙ told in
    let all = exact c.args.g.now image c.args.seen c.as_slice.result.now c.in-Ok.scanned.begun (g.D.Disk.holds c.args.disk.now) (c.requires.seen image before) c.as_slice.ensures
    c.if-not-scanned.false before c.in-Ok.ensures.begun in
    of_candidates (volume_of c.args.g.now) image c.as_slice.result.now (held_in c.in-Ok.scanned.inodes) (c.as_slice.ensures ∙ all.clusters) (c.in-Ok.ensures.inodes image before)

-- what is refused of clusters that are not too many
refused_is : (g : Geometry) (image : Image) (seen : Groups) → AreSeen g image seen → 32 * length seen.clusters ≤ 2 ^ 21 → refused (volume_of g) image ≡ refused_late (volume_of g) image
refused_is g image seen all few = refused_few (volume_of g) image seen.clusters (32 * length seen.clusters) all.clusters refl few

pub returns-in-Ok-gather_scanned : goal.returns-in-Ok-gather_scanned
returns-in-Ok-gather_scanned g c =
    let D = g.D.Disk in
    let after = c.in-Ok-gather_scanned.ensures in
    let same = c.in-Ok.ensures.disk.same_contents in
    record {
      evidence = λ image told. after.evidence image (same ∙ told);
      refused = λ image told.
          let all = exact c.args.g.now image c.args.seen c.as_slice.result.now c.in-Ok.scanned.begun (D.holds c.args.disk.now) (c.requires.seen image told) c.as_slice.ensures
          c.if-not-scanned.false told c.in-Ok.ensures.begun in
          refused_is c.args.g.now image c.args.seen all c.requires.few ∙ after.refused image (same ∙ told);
      cause = later (D.faults c.args.disk.now) (D.faults c.scan.new.disk) (D.faults c.gather_scanned.new.disk) c.in-Ok.ensures.cause after.cause;
      disk = reads_on D.size D.holds D.write_faults D.writes D.tells_stops D.moment D.may_leave D.left_since c.args.disk.now c.scan.new.disk c.gather_scanned.new.disk c.scan.ensures.disk after.disk;
      reads = counted (D.reads c.args.disk.now) (D.reads c.scan.new.disk) (D.reads c.gather_scanned.new.disk) c.args.steps.now c.scan.new.steps c.gather_scanned.new.steps c.scan.ensures.reads after.reads;
    }

pub returns-in-Err-gather_scanned : goal.returns-in-Err-gather_scanned
returns-in-Err-gather_scanned g c =
    let D = g.D.Disk in
    let after = c.in-Err-gather_scanned.ensures in
    let same = c.in-Ok.ensures.disk.same_contents in
    record {
      evidence = tt;
      refused = λ image told.
          let all = exact c.args.g.now image c.args.seen c.as_slice.result.now c.in-Ok.scanned.begun (D.holds c.args.disk.now) (c.requires.seen image told) c.as_slice.ensures
          c.if-not-scanned.false told c.in-Ok.ensures.begun in
          subst (λ (due : Option ScanFault). IsRefusal due c.in-Err-gather_scanned.fault) (sym (refused_is c.args.g.now image c.args.seen all c.requires.few)) (after.refused image (same ∙ told));
      cause = fault_caused (D.faults c.args.disk.now) (D.faults c.scan.new.disk) (D.faults c.gather_scanned.new.disk) c.in-Err-gather_scanned.fault c.in-Ok.ensures.cause after.cause;
      disk = reads_on D.size D.holds D.write_faults D.writes D.tells_stops D.moment D.may_leave D.left_since c.args.disk.now c.scan.new.disk c.gather_scanned.new.disk c.scan.ensures.disk after.disk;
      reads = counted (D.reads c.args.disk.now) (D.reads c.scan.new.disk) (D.reads c.gather_scanned.new.disk) c.args.steps.now c.scan.new.steps c.gather_scanned.new.steps c.scan.ensures.reads after.reads;
    }

pub returns-then-not-scanned : goal.returns-then-not-scanned
returns-then-not-scanned g c = record { evidence = tt; refused = λ image told. tt; cause = c.in-Ok.ensures.cause; disk = c.scan.ensures.disk; reads = c.scan.ensures.reads }

pub returns-in-Err : goal.returns-in-Err
returns-in-Err g c =
    let D = g.D.Disk in
    record {
      evidence = tt;
      refused = λ image told. part_refuses (refused (volume_of c.args.g.now) image) c.in-Err.error c.answer.result c.answer.ensures;
      cause = part_caused (D.faults c.args.disk.now) (D.faults c.scan.new.disk) c.in-Err.error c.answer.result c.answer.ensures c.in-Err.ensures.cause;
      disk = c.scan.ensures.disk;
      reads = c.scan.ensures.reads;
    }

use Rattle.std.proofs.Common.{◌≡◌, ◌/◌, true, List, Some, sym, subst, ◌∙◌, arith}
use Rattle.xfs_geom.specs.Conversions.{group_length}
use Rattle.xfs_geom.specs.Volumes.{volume_of}
use Rattle.xfs_disk.proofs.Reading.{reads_none}
use Rattle.xfs_disk.specs.Blocks.{Image}
use Rattle.xfs_volume.specs.declared.clusters.ClusterRec.{ClusterRec}
use Rattle.xfs_groups.specs.Answers.{hold_no_object}
use Rattle.xfs_groups.specs.Private.Chosen.{ClustersPlaced}
use Rattle.xfs_groups.specs.Private.ReadGroups.{IsToldIn}
use Rattle.xfs_groups.proofs.Causes.{no_later}
use Rattle.xfs_groups.proofs.Lengths.{short}
use Rattle.xfs_groups.proofs.Wholes.{candidates_are, reserved_are}
use Rattle.xfs_groups.proofs.one_group.see_group.Goals as goal

pub returns-in-Err : goal.returns-in-Err
returns-in-Err g c =
    let D = g.D.Disk in
    record {
      «record» = tt;
      clusters = tt;
      reserved = tt;
      placed = tt;
      cause = no_later (D.faults c.args.disk.now);
      disk = reads_none D.size D.holds D.write_faults D.writes D.tells_stops D.moment D.may_leave D.left_since c.args.disk.now;
      reads = omega arith;
    }

pub returns-in-Err-look_through : goal.returns-in-Err-look_through
returns-in-Err-look_through g c =
    let found = c.in-Err-look_through.ensures in
    record { «record» = tt; clusters = tt; reserved = tt; placed = tt; cause = found.cause; disk = found.disk; reads = omega arith }

pub returns-in-Ok-look_through : goal.returns-in-Ok-look_through
returns-in-Ok-look_through g c =
    let D = g.D.Disk in
    let v = volume_of c.args.g.now in
    let ag = c.args.ag in
    let said = c.told.result.now in
    let found = c.in-Ok-look_through.ensures in
    let told_is : (image : Image) → D.holds c.args.disk.now ≡ Some image → IsToldIn v image ag said =
    λ image told. subst (IsToldIn v image ag) (sym c.told.ensures) (c.in-Ok.ensures image (c.requires.parts image told)).told_is in
    record {
      «record» = λ image told. c.seen.ensures.record ∙ (c.in-Ok.ensures image (c.requires.parts image told)).record_is;
      clusters = λ image told none.
          c.seen.ensures.clusters
          ∙ (found.chosen image told (λ unlooked. subst (λ (xs : List ClusterRec). hold_no_object v image xs ≡ true) c.seen.ensures.clusters (none unlooked)) ∙ candidates_are v image ag said (told_is image told) (short c.args.g.now ag c.requires.group));
      reserved = λ image told.
          c.seen.ensures.reserved ∙ (found.withheld image told ∙ reserved_are v image ag said (told_is image told) (short c.args.g.now ag c.requires.group));
      placed = subst (ClustersPlaced v ag (group_length v ag / 4)) (sym c.seen.ensures.clusters) found.placed;
      cause = found.cause;
      disk = found.disk;
      reads = omega arith;
    }

use Rattle.std.proofs.Common.{◌≡◌, ◌/◌, Bool, IfOk, sym, subst, ap, ap₂, ◌∙◌}
use Rattle.std.specs.Option.{ForSome}
use Rattle.xfs_disk.specs.Blocks.{Image}
use Rattle.xfs_geom.specs.Conversions.{group_length}
use Rattle.xfs_geom.specs.Volumes.{volume_of}
use Rattle.xfs_image.specs.Groups.{head_block}
use Rattle.xfs_disk.proofs.Reading.{reads_none}
use Rattle.xfs_groups.specs.Private.Chosen.{chosen, withheld}
use Rattle.xfs_groups.specs.declared.scanned.ScannedGroup.{ScannedGroup}
use Rattle.xfs_groups.specs.Answers.{hold_no_object}
use Rattle.xfs_groups.proofs.Bare.{looked_at}
use Rattle.xfs_groups.proofs.Causes.{no_later, low_start}
use Rattle.xfs_groups.proofs.Choosing.{held_withheld}
use Rattle.xfs_groups.proofs.one_group.look_through.Goals as goal

pub scan_group-requires-clause-group : goal.scan_group-requires-clause-group
scan_group-requires-clause-group g c = c.requires.group

pub scan_group-requires-clause-inside : goal.scan_group-requires-clause-inside
scan_group-requires-clause-inside g c = c.requires.inside

pub start_of_group-requires : goal.start_of_group-requires
start_of_group-requires g c = c.requires.group

pub group_length-requires : goal.group_length-requires
group_length-requires g c = c.requires.group

pub within-requires : goal.within-requires
within-requires g c = low_start _ _ c.start_of_group.ensures.inside c.args.g.now.shape.groups.small

pub recorded_clusters-requires-clause-group : goal.recorded_clusters-requires-clause-group
recorded_clusters-requires-clause-group g c = c.requires.group

pub recorded_clusters-requires-clause-inside : goal.recorded_clusters-requires-clause-inside
recorded_clusters-requires-clause-inside g c = c.requires.inside

pub returns-then-not-told : goal.returns-then-not-told
returns-then-not-told g c =
    let v = volume_of c.args.g.now in
    let said = c.args.told.now in
    let ag = c.args.ag in
    let found = c.scan_group.ensures in
    record {
      chosen = looked_at c.scan_group.result (g.D.Disk.holds c.args.disk.now) c.args.looks (hold_no_object v) (λ (image : Image). chosen v image said.trusted said.named ag (group_length v ag / 4))
          (subst (λ (b : Bool). IfOk c.scan_group.result (λ (s : ScannedGroup). ForSome (g.D.Disk.holds c.args.disk.now) (λ (image : Image).
          s.clusters.items ≡ chosen v image b said.named ag (group_length v ag / 4)))) (sym c.if-not-told.true) found.chosen);
      withheld = subst (λ (b : Bool). IfOk c.scan_group.result (λ (s : ScannedGroup). ForSome (g.D.Disk.holds c.args.disk.now) (λ (image : Image).
          s.reserved.items ≡ withheld v image b said.held (head_block v ag) (group_length v ag)))) (sym c.if-not-told.true) found.withheld;
      placed = found.placed;
      cause = found.cause;
      disk = found.disk;
      reads = found.reads;
    }

pub returns-in-Err : goal.returns-in-Err
returns-in-Err g c =
    let D = g.D.Disk in
    record {
      chosen = tt;
      withheld = tt;
      placed = tt;
      cause = no_later (D.faults c.args.disk.now);
      disk = reads_none D.size D.holds D.write_faults D.writes D.tells_stops D.moment D.may_leave D.left_since c.args.disk.now;
      reads = no_later _;
    }

pub returns-in-Err-recorded_clusters : goal.returns-in-Err-recorded_clusters
returns-in-Err-recorded_clusters g c =
    let found = c.in-Err-recorded_clusters.ensures in
    record { chosen = tt; withheld = tt; placed = tt; cause = found.cause; disk = found.disk; reads = found.reads }

pub returns-in-Ok-recorded_clusters : goal.returns-in-Ok-recorded_clusters
returns-in-Ok-recorded_clusters g c =
    let v = volume_of c.args.g.now in
    let said = c.args.told.now in
    let found = c.in-Ok-recorded_clusters.ensures in
    record {
      chosen = λ image told none.
          found.chosen image told none ∙ ap (λ (b : Bool). chosen v image b said.named c.args.ag (group_length v c.args.ag / 4)) (sym c.if-not-told.false);
      withheld = λ image told.
          c.in-Ok.ensures
          ∙ (held_withheld v image said.trusted said.held c.start_of_group.result c.group_length.result c.if-not-told.false
          ∙ ap₂ (withheld v image said.trusted said.held) c.start_of_group.ensures.value c.group_length.ensures.value);
      placed = found.placed;
      cause = found.cause;
      disk = found.disk;
      reads = found.reads;
    }

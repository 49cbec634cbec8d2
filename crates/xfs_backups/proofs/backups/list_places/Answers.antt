-- One more group is looked at.
use Rattle.std.proofs.Common.{◌≡◌, ℕ, ◌*◌, ◌<◌, ◌≤◌, ◌++◌, ◌-◌, List, ◌∙◌, sym, ap, subst, arith}
use Rattle.std.specs.List.{All}
use Rattle.std.proofs.lemmas.List.Elements.{All-nil}
use Rattle.xfs_disk.proofs.Reading.{reads_none, reads_on}
use Rattle.xfs_geom.specs.Volumes.{Volume}
use Rattle.xfs_backups.specs.Backups.{start_of}
use Rattle.xfs_backups.specs.Private.Rows.{disagreeing_places}
use Rattle.xfs_backups.proofs.Causes.{later_on, no_later, rose_on}
use Rattle.xfs_backups.proofs.Rows.{all_places, next_place, one_more_inside}
use Rattle.xfs_backups.proofs.backups.list_places.Goals as goal

pub loop-group-init : goal.loop-group-init
loop-group-init g c =
    let D = g.D.Disk in
    let none = c.new-places.ensures.items in
    record {
      places = λ image told. ap (λ (xs : List ℕ). xs ++ disagreeing_places c.args.primary.now image 1 (c.args.geometry.now.agcount - 1)) none;
      inside = subst (All (λ (p : ℕ). p < D.size c.args.disk.now)) (sym none) (All-nil (λ (p : ℕ). p < D.size c.args.disk.now));
      later = no_later (D.faults c.args.disk.now);
      disk = reads_none D.size D.holds D.write_faults D.writes D.tells_stops D.moment D.may_leave D.left_since c.args.disk.now;
    }

pub is_agreeing-requires : goal.is_agreeing-requires
is_agreeing-requires g c = record {
  sector = c.requires.sector;
  stated = c.requires.stated;
  inside = subst (λ (n : ℕ). c.args.geometry.now.dblocks ≤ n) (sym c.loop-group.invariant.disk.same_size) c.requires.inside;
  group = c.loop-group-test.true;
}

pub start_of_group-requires : goal.start_of_group-requires
start_of_group-requires g c = c.loop-group-test.true

pub loop-group-preserved : goal.loop-group-preserved
unfolding start_of
loop-group-preserved g c =
    let D = g.D.Disk in
    let group = c.loop-group.group in
    let at = c.start_of_group.result in
    let place : at ≡ start_of c.args.primary.now group = c.start_of_group.ensures.value ∙ ap (λ (v : Volume). group * v.agblocks) c.requires.stated in
    let inside : at < D.size c.args.disk.now = omega (arith, c.start_of_group.ensures.inside, c.requires.inside) in
    record {
      places = λ image told.
          next_place c.args.primary.now image group c.args.geometry.now.agcount at c.in-Ok.agreeing c.loop-group.places.items c.push_unless.new.places.items _
          c.loop-group-test.true (c.in-Ok.ensures.agreeing image (c.loop-group.invariant.disk.same_contents ∙ told)) place c.in-Ok-push_unless.ensures
          (c.loop-group.invariant.places image told);
      inside = one_more_inside (λ (p : ℕ). p < D.size c.args.disk.now) c.loop-group.places.items c.push_unless.new.places.items c.in-Ok.agreeing at
          c.loop-group.invariant.inside inside c.in-Ok-push_unless.ensures;
      later = later_on (D.faults c.args.disk.now) (D.faults c.loop-group.disk) (D.faults c.is_agreeing.new.disk) c.loop-group.invariant.later c.in-Ok.ensures.cause;
      disk = reads_on D.size D.holds D.write_faults D.writes D.tells_stops D.moment D.may_leave D.left_since c.args.disk.now c.loop-group.disk c.is_agreeing.new.disk
          c.loop-group.invariant.disk c.in-Ok.ensures.disk;
    }

pub returns-clause-places : goal.returns-clause-places
returns-clause-places g c = λ image told.
    all_places c.args.primary.now image c.loop-group.group c.args.geometry.now.agcount c.loop-group.places.items _ c.loop-group-test.false (c.loop-group.invariant.places image told)

pub returns-clause-inside : goal.returns-clause-inside
returns-clause-inside g c = c.loop-group.invariant.inside

pub returns-clause-cause : goal.returns-clause-cause
returns-clause-cause g c = c.loop-group.invariant.later

pub returns-clause-disk : goal.returns-clause-disk
returns-clause-disk g c = c.loop-group.invariant.disk

pub returns-in-Err : goal.returns-in-Err
returns-in-Err g c =
    let D = g.D.Disk in
    let before = c.loop-group.invariant in
    let failed = c.in-Err.ensures in
    record {
      places = tt;
      inside = tt;
      cause = rose_on (D.faults c.args.disk.now) (D.faults c.loop-group.disk) (D.faults c.is_agreeing.new.disk) before.later failed.cause;
      disk = reads_on D.size D.holds D.write_faults D.writes D.tells_stops D.moment D.may_leave D.left_since c.args.disk.now c.loop-group.disk c.is_agreeing.new.disk before.disk failed.disk;
    }

pub returns-in-Err-push_unless : goal.returns-in-Err-push_unless
returns-in-Err-push_unless g c =
    let D = g.D.Disk in
    let before = c.loop-group.invariant in
    let read = c.in-Ok.ensures in
    record {
      places = tt;
      inside = tt;
      cause = later_on (D.faults c.args.disk.now) (D.faults c.loop-group.disk) (D.faults c.is_agreeing.new.disk) before.later read.cause;
      disk = reads_on D.size D.holds D.write_faults D.writes D.tells_stops D.moment D.may_leave D.left_since c.args.disk.now c.loop-group.disk c.is_agreeing.new.disk before.disk read.disk;
    }

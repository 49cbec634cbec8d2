use Rattle.std.proofs.Common.{◌≡◌, ℕ, ◌≤◌, ◌∙◌, Option, sym, subst, arith}
use Rattle.std.specs.Prelude.{IfOk}
use Rattle.std.specs.Option.{ForSome}
use Rattle.xfs_disk.specs.Blocks.{Image}
use Rattle.xfs_disk.proofs.Reading.{reads_on}
use Rattle.xfs_geom.specs.Volumes.{volume_of}
use Rattle.xfs_image.specs.Candidates.{has_whole_seal}
use Rattle.xfs_image.proofs.Objects.{begun_is_no_object}
use Rattle.xfs_groups.proofs.Causes.{has_cause_on}
use Rattle.xfs_groups.proofs.looking.look_whole.Goals as goal

pub look_at_all-requires : goal.look_at_all-requires
look_at_all-requires g c = record {
  place = c.requires.place;
  inside = subst (λ (n : ℕ). c.args.g.now.dblocks ≤ n) (sym c.in-Ok-false.ensures.disk.same_size) c.requires.inside;
}

pub returns-in-Ok-true : goal.returns-in-Ok-true
returns-in-Ok-true g c = record {
  whole = λ image told.
      sym (begun_is_no_object (volume_of c.args.g.now) image c.args.place (sym (c.in-Ok-true.ensures.begins image told) ∙ c.in-Ok-true.field-0-test));
  cause = c.in-Ok-true.ensures.cause;
  disk = c.in-Ok-true.ensures.disk;
  reads = c.in-Ok-true.ensures.reads;
}

pub returns-in-Ok-false : goal.returns-in-Ok-false
returns-in-Ok-false g c =
    let D = g.D.Disk in
    let begun = c.in-Ok-false.ensures in
    let looked = c.look_at_all.ensures in
    record {
      whole =
          subst (λ (holds : Option Image). IfOk c.look_at_all.result (λ whole. ForSome holds (λ image. whole ≡ has_whole_seal (volume_of c.args.g.now) image c.args.place)))
          begun.disk.same_contents looked.whole;
      cause = has_cause_on (D.faults c.args.disk.now) (D.faults c.begins_as_slot.new.disk) (D.faults c.look_at_all.new.disk) c.look_at_all.result begun.cause looked.cause;
      disk = reads_on D.size D.holds D.write_faults D.writes D.tells_stops D.moment D.may_leave D.left_since c.args.disk.now _ _ begun.disk looked.disk;
      reads = omega arith;
    }

pub returns-in-Err : goal.returns-in-Err
returns-in-Err g c = record { whole = tt; cause = c.in-Err.ensures.cause; disk = c.in-Err.ensures.disk; reads = c.in-Err.ensures.reads }

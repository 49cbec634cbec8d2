-- The geometry is chosen, or refused, and the disk is looked at.
use Rattle.std.proofs.Common.{◌≡◌, ◌≤◌, ℕ, true, false, None, Some, ap, arith, sym, ◌∙◌, subst}
use Rattle.xfs_disk.proofs.Reading.{reads_on}
use Rattle.xfs_geom.specs.Volumes.{volume_of}
use Rattle.xfs_empty.proofs.Kept.{many}
use Rattle.xfs_empty.specs.Sizes.{too_small}
use Rattle.xfs_mkfs.specs.Counts.{LooksPartly, looked}
use Rattle.xfs_mkfs.specs.Due.{asked_of}
use Rattle.xfs_mkfs.proofs.Failing.{caused_read, due_read, early_read, reads_failed, reads_nothing, rose_later}
use Rattle.xfs_mkfs.proofs.Geometries.{chosen_for, on_disk, refused_mark, refused_size, sized_for}
use Rattle.xfs_mkfs.proofs.preparing.decide.Goals as goal

pub has_volume-requires : goal.has_volume-requires
has_volume-requires g c =
    let geometry = c.in-Ok-choose.g in
    let some : 1024 ≤ geometry.dblocks = many (volume_of geometry) geometry.shape.groups in
    let inside : geometry.dblocks ≤ c.in-Ok.blocks =
    subst (λ (n : ℕ). n ≤ c.in-Ok.blocks) (sym c.in-Ok-choose.ensures.chosen.dblocks)
    (on_disk c.asked_of.result c.in-Ok.blocks c.in-Ok-choose.ensures.fits) in
    record { some = omega (arith, some, inside, c.in-Ok.ensures.count, c.in-Ok.ensures.disk.same_size) }

pub returns-in-Err : goal.returns-in-Err
returns-in-Err g c =
    let D = g.D.Disk in
    let o = c.args.options.now in
    let old = c.args.disk.now in
    let new = c.count_blocks.new.disk in
    let is = c.read_fault.ensures in
    record {
      due = λ told image at. due_read o c.args.stamp.now told (D.size old) image (D.faults new) c.read_fault.result is;
      early = early_read (D.faults new) c.read_fault.result is;
      cause = λ before now. caused_read (D.faults old) (D.faults new) (D.write_faults old) (D.write_faults new) before now c.read_fault.result is c.in-Err.ensures.cause;
      none = tt;
      fits = tt;
      chosen = tt;
      disk = c.in-Err.ensures.disk;
      reads = reads_failed o.force (D.reads old) (D.reads new) (D.faults new) c.read_fault.result is (reads_nothing o.force (D.reads old) (D.reads new) c.in-Err.ensures.reads);
      looked = tt;
      faults = c.in-Err.ensures.cause.0;
    }

pub returns-in-Err-choose : goal.returns-in-Err-choose
returns-in-Err-choose g c =
    let D = g.D.Disk in
    let o = c.args.options.now in
    let what = c.in-Err-choose.what in
    record {
      due = λ told image at. refused_size o (D.size c.args.disk.now) image what
          (sized_for o c.asked_of.result c.in-Ok.blocks (D.size c.args.disk.now) (Some what) c.asked_of.ensures c.in-Ok.ensures.count c.in-Err-choose.ensures.refused);
      early = tt;
      cause = λ before now. tt;
      none = tt;
      fits = tt;
      chosen = tt;
      disk = c.in-Ok.ensures.disk;
      reads = c.in-Ok.ensures.reads;
      looked = tt;
      faults = c.in-Ok.ensures.cause;
    }

pub returns-in-Ok-false : goal.returns-in-Ok-false
returns-in-Ok-false g c =
    let D = g.D.Disk in
    let o = c.args.options.now in
    let old = c.args.disk.now in
    let counted = c.in-Ok.ensures.disk in
    let fits : too_small (asked_of o) (D.size old) ≡ None =
    sized_for o c.asked_of.result c.in-Ok.blocks (D.size old) None c.asked_of.ensures c.in-Ok.ensures.count c.in-Ok-choose.ensures.fits in
    let up : D.faults old ≤ D.faults c.count_blocks.new.disk = c.in-Ok.ensures.cause in
    let later : D.faults c.count_blocks.new.disk ≤ D.faults c.has_volume.new.disk = c.in-Ok-false.ensures.cause in
    record {
      due = tt;
      early = tt;
      cause = tt;
      none = λ image told. refused_mark o (D.size old) image false fits (sym (c.in-Ok-false.ensures.value image (counted.same_contents ∙ told)) ∙ c.in-Ok-false.field-0-test);
      fits = fits;
      chosen = chosen_for o c.args.stamp.now c.asked_of.result c.in-Ok.blocks (D.size old) c.identifier.result c.in-Ok-choose.g c.asked_of.ensures c.in-Ok.ensures.count
          c.identifier.ensures c.in-Ok-choose.ensures.chosen;
      disk = reads_on D.size D.holds D.write_faults D.writes D.tells_stops D.moment D.may_leave D.left_since old c.count_blocks.new.disk c.has_volume.new.disk counted c.in-Ok-false.ensures.disk;
      reads = tt;
      looked = c.in-Ok-false.ensures.looked ∙ ap (looked o.force) c.in-Ok.ensures.reads;
      faults = omega (arith, up, later);
    }

pub returns-in-Ok-true : goal.returns-in-Ok-true
returns-in-Ok-true g c =
    let D = g.D.Disk in
    let o = c.args.options.now in
    let old = c.args.disk.now in
    let counted = c.in-Ok.ensures.disk in
    let fits : too_small (asked_of o) (D.size old) ≡ None =
    sized_for o c.asked_of.result c.in-Ok.blocks (D.size old) None c.asked_of.ensures c.in-Ok.ensures.count c.in-Ok-choose.ensures.fits in
    let up : D.faults old ≤ D.faults c.count_blocks.new.disk = c.in-Ok.ensures.cause in
    let later : D.faults c.count_blocks.new.disk ≤ D.faults c.has_volume.new.disk = c.in-Ok-true.ensures.cause in
    record {
      due = λ files image told. refused_mark o (D.size old) image true fits (sym (c.in-Ok-true.ensures.value image (counted.same_contents ∙ told)) ∙ c.in-Ok-true.field-0-test);
      early = tt;
      cause = λ before now. tt;
      none = tt;
      fits = tt;
      chosen = tt;
      disk = reads_on D.size D.holds D.write_faults D.writes D.tells_stops D.moment D.may_leave D.left_since old c.count_blocks.new.disk c.has_volume.new.disk counted c.in-Ok-true.ensures.disk;
      reads = c.in-Ok-true.ensures.looked ∙ ap (looked o.force) c.in-Ok.ensures.reads;
      looked = tt;
      faults = omega (arith, up, later);
    }

pub returns-in-Err-has_volume : goal.returns-in-Err-has_volume
returns-in-Err-has_volume g c =
    let D = g.D.Disk in
    let o = c.args.options.now in
    let old = c.args.disk.now in
    let new = c.has_volume.new.disk in
    let counted = c.in-Ok.ensures.disk in
    let answer = c.read_fault-in-Err-has_volume in
    let rose = rose_later (D.faults old) (D.faults c.count_blocks.new.disk) (D.faults new) c.in-Ok.ensures.cause c.in-Err-has_volume.ensures.cause in
    record {
      due = λ told image at. due_read o c.args.stamp.now told (D.size old) image (D.faults new) answer.result answer.ensures;
      early = early_read (D.faults new) answer.result answer.ensures;
      cause = λ before now. caused_read (D.faults old) (D.faults new) (D.write_faults old) (D.write_faults new) before now answer.result answer.ensures rose;
      none = tt;
      fits = tt;
      chosen = tt;
      disk = reads_on D.size D.holds D.write_faults D.writes D.tells_stops D.moment D.may_leave D.left_since old c.count_blocks.new.disk new counted c.in-Err-has_volume.ensures.disk;
      reads = reads_failed o.force (D.reads old) (D.reads new) (D.faults new) answer.result answer.ensures
          (subst (λ (n : ℕ). LooksPartly o.force n (D.reads new)) c.in-Ok.ensures.reads c.in-Err-has_volume.ensures.failed);
      looked = tt;
      faults = rose.0;
    }

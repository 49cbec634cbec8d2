use Rattle.std.proofs.Common.{◌≡◌, ◌≤◌, ℕ, true, false, refl, sym, ◌∙◌, subst}
use borrow.Author.Count.{falls}
use Rattle.xfs_disk.proofs.Reading.{reads_none, reads_on}
use Rattle.xfs_backups.proofs.Causes.{later_on, no_later, rose_on}
use Rattle.xfs_backups.proofs.Planning.{agreeing_next, disagreeing_here}
use Rattle.xfs_backups.proofs.backups.find_disagreeing.Goals as goal

pub loop-group-preserved : goal.loop-group-preserved
loop-group-preserved g c =
    let agrees : c.in-Ok.agreeing ≡ true = c.if-not-agreeing.false in
    record {
      first =
          λ image told.
          agreeing_next c.args.primary.now image c.loop-group.group c.args.geometry.now.agcount _ c.loop-group-test.true
          (sym (c.in-Ok.ensures.agreeing image (c.loop-group.invariant.disk.same_contents ∙ told)) ∙ agrees) (c.loop-group.invariant.first image told);
      later = later_on (g.D.Disk.faults c.args.disk.now) (g.D.Disk.faults c.loop-group.disk) (g.D.Disk.faults c.is_agreeing.new.disk) c.loop-group.invariant.later c.in-Ok.ensures.cause;
      disk =
          let D = g.D.Disk in
          reads_on D.size D.holds D.write_faults D.writes D.tells_stops D.moment D.may_leave D.left_since c.args.disk.now c.loop-group.disk c.is_agreeing.new.disk
          c.loop-group.invariant.disk c.is_agreeing.ensures.disk;
    }

pub returns-then-not-agreeing-clause-first : goal.returns-then-not-agreeing-clause-first
returns-then-not-agreeing-clause-first g c =
    λ image told.
    let other : c.in-Ok.agreeing ≡ false = c.if-not-agreeing.true in
    disagreeing_here c.args.primary.now image c.loop-group.group c.args.geometry.now.agcount _ c.loop-group-test.true
    (sym (c.in-Ok.ensures.agreeing image (c.loop-group.invariant.disk.same_contents ∙ told)) ∙ other) (c.loop-group.invariant.first image told)

pub loop-group-init : goal.loop-group-init
loop-group-init g c =
    let D = g.D.Disk in
    record {
      first = λ image told. refl;
      later = no_later (D.faults c.args.disk.now);
      disk = reads_none D.size D.holds D.write_faults D.writes D.tells_stops D.moment D.may_leave D.left_since c.args.disk.now;
    }

pub loop-group-smaller : goal.loop-group-smaller
loop-group-smaller g c = falls c.args.geometry.now.agcount c.loop-group.group c.loop-group-test.true

pub is_agreeing-requires : goal.is_agreeing-requires
is_agreeing-requires g c = record {
  sector = c.requires.sector;
  stated = c.requires.stated;
  inside = subst (λ (n : ℕ). c.args.geometry.now.dblocks ≤ n) (sym c.loop-group.invariant.disk.same_size) c.requires.inside;
  group = c.loop-group-test.true;
}

pub returns-then-not-agreeing-clause-cause : goal.returns-then-not-agreeing-clause-cause
returns-then-not-agreeing-clause-cause g c = later_on (g.D.Disk.faults c.args.disk.now) (g.D.Disk.faults c.loop-group.disk) (g.D.Disk.faults c.is_agreeing.new.disk) c.loop-group.invariant.later c.in-Ok.ensures.cause

pub returns-then-not-agreeing-clause-disk : goal.returns-then-not-agreeing-clause-disk
returns-then-not-agreeing-clause-disk g c =
    let D = g.D.Disk in
    reads_on D.size D.holds D.write_faults D.writes D.tells_stops D.moment D.may_leave D.left_since c.args.disk.now c.loop-group.disk c.is_agreeing.new.disk
    c.loop-group.invariant.disk c.is_agreeing.ensures.disk

pub returns-in-Err-clause-first : goal.returns-in-Err-clause-first
returns-in-Err-clause-first g c = tt

pub returns-in-Err-clause-cause : goal.returns-in-Err-clause-cause
returns-in-Err-clause-cause g c = rose_on (g.D.Disk.faults c.args.disk.now) (g.D.Disk.faults c.loop-group.disk) (g.D.Disk.faults c.is_agreeing.new.disk) c.loop-group.invariant.later c.in-Err.ensures.cause

pub returns-in-Err-clause-disk : goal.returns-in-Err-clause-disk
returns-in-Err-clause-disk g c =
    let D = g.D.Disk in
    reads_on D.size D.holds D.write_faults D.writes D.tells_stops D.moment D.may_leave D.left_since c.args.disk.now c.loop-group.disk c.is_agreeing.new.disk
    c.loop-group.invariant.disk c.is_agreeing.ensures.disk

pub returns-clause-cause : goal.returns-clause-cause
returns-clause-cause g c = c.loop-group.invariant.later

pub returns-clause-disk : goal.returns-clause-disk
returns-clause-disk g c = c.loop-group.invariant.disk

-- What comes of what is gathered.
use Rattle.std.proofs.Common.{◌≤◌, ◌&&◌, ℕ, sym, ◌∙◌, subst}
use Rattle.xfs_disk.proofs.Reading.{reads_on}
use Rattle.xfs_mend.specs.Asked.{repair_asked}
use Rattle.xfs_mend.specs.Due.{asks_log, is_dirty}
use Rattle.xfs_mend.proofs.Turning.{admitted_unless, cause_unless, turned_unless}
use Rattle.xfs_mend.proofs.refusals.admit_counted.Goals as goal

pub returns-in-Ok : goal.returns-in-Ok
returns-in-Ok g c =
    let D = g.D.Disk in
    let o = repair_asked c.args.options.now in
    let e = c.in-Ok.evidence in
    let r = c.unless_asked.result in
    record {
      admitted = admitted_unless o c.args.g.now (D.holds c.args.disk.now) e r c.unless_asked.ensures c.in-Ok.ensures.evidence c.in-Ok.ensures.refused;
      turned = turned_unless o c.args.g.now (D.holds c.args.disk.now) e r c.unless_asked.ensures c.in-Ok.ensures.evidence;
      cause = cause_unless (D.faults c.args.disk.now) (D.faults c.gather.new.disk) (asks_log o && is_dirty e.log) e r c.unless_asked.ensures c.in-Ok.ensures.cause;
      disk = c.in-Ok.ensures.disk;
    }

pub turn_away-requires : goal.turn_away-requires
turn_away-requires g c = record {
  inside = subst (λ (n : ℕ). c.args.g.now.dblocks ≤ n) (sym c.in-Err.ensures.disk.same_size) c.requires.inside;
  refused = λ image told. c.in-Err.ensures.refused image (sym c.in-Err.ensures.disk.same_contents ∙ told);
}

pub returns : goal.returns
returns g c =
    let D = g.D.Disk in
    let seen = c.in-Err.ensures.disk in
    let later = c.turn_away.ensures in
    record {
      admitted = tt;
      turned = λ image told. later.turned image (seen.same_contents ∙ told);
      cause = later.cause (D.faults c.args.disk.now) c.in-Err.ensures.cause;
      disk = reads_on D.size D.holds D.write_faults D.writes D.tells_stops D.moment D.may_leave D.left_since c.args.disk.now c.gather.new.disk c.turn_away.new.disk seen later.disk;
    }

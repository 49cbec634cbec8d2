-- What is found is told, or the backups are repaired.
use Rattle.std.proofs.Common.{rules, ◌≡◌, ◌≤◌, ◌-◌, ℕ, true, false, length, Some, refl, sym, subst, arith}
use Rattle.xfs_disk.proofs.Reading.{reads_none}
use Rattle.xfs_geom.specs.Electing.{vote_of}
use Rattle.xfs_geom.specs.Volumes.{volume_of}
use Rattle.xfs_backups.specs.Backups.{steps_from}
use Rattle.xfs_mend.proofs.Accepted.{accepted, plan_elected, stated_primary, stops_by_plan, written_leaves}
use Rattle.xfs_mend.proofs.Deciding.{due_damaged, due_of_plan, from_primary, has_backup, is_elected, kept_backup}
use Rattle.xfs_mend.proofs.Ending.{ends_read, stops_read}
use Rattle.xfs_mend.proofs.Owing.{owed_as}
use Rattle.xfs_mend.proofs.Restored.{has_fault, is_repaired}
use Rattle.xfs_mend.proofs.Staying.{looked_at}
use Rattle.xfs_mend.specs.Asked.{repair_asked}
use Rattle.xfs_mend.specs.Due.{IsDueFound}
use Rattle.xfs_mend.specs.Outcome.{StopsBy}
use Rattle.xfs_mend.specs.Rebuilding.{is_backup}
use Rattle.xfs_mend.specs.declared.outcome.Outcome.TheVariants as out
use Rattle.xfs_mend.specs.declared.outcome.Summary.TheVariants.{Backups}
use Rattle.xfs_mend.proofs.repairing.answer_kept.Goals as goal

pub returns-then-options-clause-due : goal.returns-then-options-clause-due
returns-then-options-clause-due g c = λ image told.
    due_damaged (repair_asked c.args.options.now) c.args.chosen.now.geometry c.args.stamp.now image c.args.found c.if-options.true

pub returns-then-options-clause-stops : goal.returns-then-options-clause-stops
returns-then-options-clause-stops g c = λ tells image told t stopped low left.
    let D = g.D.Disk in
    let disk = c.args.disk.now in
    stops_read D.size D.holds D.faults D.write_faults D.writes D.tells_stops D.moment D.may_leave D.left_since disk disk t stopped (StopsBy c.args.stamp.now image (out.Damaged c.args.found) stopped)
    (reads_none D.size D.holds D.write_faults D.writes D.tells_stops D.moment D.may_leave D.left_since disk) tells low left

pub returns-then-options-clause-ends : goal.returns-then-options-clause-ends
returns-then-options-clause-ends g c =
    let D = g.D.Disk in
    let disk = c.args.disk.now in
    ends_read D.size D.holds D.faults D.write_faults D.writes D.tells_stops D.moment D.may_leave D.left_since disk disk (out.Damaged c.args.found)
    (reads_none D.size D.holds D.write_faults D.writes D.tells_stops D.moment D.may_leave D.left_since disk) (omega arith) refl tt

pub returns-clause-due : goal.returns-clause-due
returns-clause-due g c =
    λ image told.
    let vote = vote_of c.args.chosen.now in
    let geometry = c.args.chosen.now.geometry in
    let repairs : c.args.options.now.check ≡ false = c.if-options.false in
    let backup : is_backup c.args.found ≡ true = kept_backup c.args.options.now.check (is_backup c.args.found) c.requires.kept c.if-options.false in
    let elects = c.requires.elects image told in
    let from = from_primary geometry image vote c.args.found elects (c.requires.found image told) backup in
    let steps = steps_from c.args.chosen.now.sector image 1 (geometry.agcount - 1) in
    owed_as (λ due. due ≡ out.Repaired (Backups (length steps))) (IsDueFound (repair_asked c.args.options.now) geometry c.args.stamp.now image (Some c.args.found)) c.repair_backups.result
    (λ outcome is. due_of_plan (repair_asked c.args.options.now) geometry c.args.stamp.now image c.args.found steps outcome repairs backup (plan_elected image vote geometry elects from c.requires.stated) is)
    (c.repair_backups.ensures.due image told)

pub returns-clause-leaves : goal.returns-clause-leaves
returns-clause-leaves g c =
    λ image told.
    let vote = vote_of c.args.chosen.now in
    let geometry = c.args.chosen.now.geometry in
    let backup : is_backup c.args.found ≡ true = kept_backup c.args.options.now.check (is_backup c.args.found) c.requires.kept c.if-options.false in
    let elects = c.requires.elects image told in
    let from = from_primary geometry image vote c.args.found elects (c.requires.found image told) backup in
    let steps = steps_from c.args.chosen.now.sector image 1 (geometry.agcount - 1) in
    let is = has_backup geometry image c.args.found (is_elected geometry image vote elects c.requires.stated) (c.requires.found image told) backup in
    let found = has_fault geometry image c.args.found (c.requires.found image told) backup in
    let known = accepted image vote geometry elects from c.requires.sector c.requires.stated
    (subst (λ (n : ℕ). geometry.dblocks ≤ n) (sym (g.met.D.Disk.shape c.args.disk.now image told).count) c.requires.inside) in
    let none = looked_at (repair_asked c.args.options.now) (volume_of geometry) image (c.requires.admitted image told) in
    written_leaves c.args.stamp.now image (g.D.Disk.holds c.repair_backups.new.disk) steps (length steps) c.repair_backups.result is
    (λ planned. is_repaired image (g.D.Disk.holds c.repair_backups.new.disk) geometry found.0 known (stated_primary image vote geometry elects from c.requires.stated) found.1 none planned)
    (plan_elected image vote geometry elects from c.requires.stated)
    (c.repair_backups.ensures.due image told)
    (c.repair_backups.ensures.leaves image told)

pub returns-clause-stops : goal.returns-clause-stops
returns-clause-stops g c =
    λ tells image told t stopped low left.
    let vote = vote_of c.args.chosen.now in
    let geometry = c.args.chosen.now.geometry in
    let backup : is_backup c.args.found ≡ true = kept_backup c.args.options.now.check (is_backup c.args.found) c.requires.kept c.if-options.false in
    let elects = c.requires.elects image told in
    let from = from_primary geometry image vote c.args.found elects (c.requires.found image told) backup in
    let steps = steps_from c.args.chosen.now.sector image 1 (geometry.agcount - 1) in
    let is = has_backup geometry image c.args.found (is_elected geometry image vote elects c.requires.stated) (c.requires.found image told) backup in
    stops_by_plan c.args.stamp.now image steps c.repair_backups.result stopped (g.D.Disk.left_since c.args.disk.now t stopped) is
    (plan_elected image vote geometry elects from c.requires.stated)
    (c.repair_backups.ensures.stops tells image told t stopped low left)

pub returns-clause-possible : goal.returns-clause-possible
returns-clause-possible g c =
    let repairs : c.args.options.now.check ≡ false = search rules in
    c.repair_backups.ensures.possible (repair_asked c.args.options.now) repairs

pub returns-clause-ends : goal.returns-clause-ends
returns-clause-ends g c = c.repair_backups.ensures.ends

use Rattle.std.proofs.Common.{◌≡◌, ◌∙◌, ◌+◌, ◌++◌, [], Err, Some, inl, inr, refl, sym, ap, subst, arith, IfOk, List, ℕ, Result}
use Rattle.std.proofs.lemmas.List.{append-nil}
use Rattle.std.specs.Option.{ForSome}
use Rattle.xfs_geom.specs.Electing.{vote_of}
use Rattle.xfs_geom.specs.Election.{Vote, elected}
use Rattle.xfs_geom.specs.Volumes.{Volume, stated_volume}
use Rattle.xfs_geom.specs.declared.election.ElectFault.{ElectFault}
use Rattle.xfs_geom.specs.declared.election.ElectFault.TheVariants as fault
use Rattle.xfs_shell.specs.Running.{may_write}
use Rattle.xfs_shell.specs.Shells.{HasElected, LeavesDisk, Prints, leave_of, most_of, told_lines}
use Rattle.xfs_shell.specs.Stops.{StopsBetween}
use Rattle.xfs_shell.proofs.Passing.{passed_none, stops_between}
use Rattle.xfs_shell.proofs.Asked.{no_geometry_input, no_memory_input, past_elected, undecided, unread_input, unsupported_input, whatever_elected}
use Rattle.xfs_shell.proofs.Stepping.{over_behind, over_early}
use Rattle.xfs_shell.specs.declared.outcomes.ShellOutcome.{ShellOutcome}
use Rattle.xfs_shell.specs.declared.outcomes.ShellOutcome.TheVariants as out
use Rattle.xfs_shell.proofs.debugging.shell.Goals as goal

pub returns-clause-elected : goal.returns-clause-elected
returns-clause-elected g c =
    λ image told.
    subst (λ (due : Result Vote ElectFault). HasElected due c.run_asked.result) (sym (c.in-Ok.ensures.due image told))
    (past_elected (vote_of c.in-Ok.elected) c.run_asked.result c.run_asked.ensures.past)

pub returns-clause-image : goal.returns-clause-image
returns-clause-image g c =
    λ image told.
    let o = c.args.options.now in
    let now = g.D.Disk.holds c.run_asked.new.disk in
    subst (λ (due : Result Vote ElectFault). IfOk due (λ vote. ForSome (told_lines o.commands (g.S.Source.left c.args.input.now)) (λ lines.
    LeavesDisk (stated_volume vote.sector) (leave_of o) lines image now (g.D.Disk.writes c.args.disk.now) (g.D.Disk.writes c.run_asked.new.disk) c.run_asked.result)))
    (sym (c.in-Ok.ensures.due image told))
    (λ lines told_lines.
    subst (λ (n : ℕ). LeavesDisk (stated_volume c.in-Ok.elected.sector) (leave_of o) lines image now n (g.D.Disk.writes c.run_asked.new.disk) c.run_asked.result)
    c.in-Ok.ensures.disk.same_writes
    (subst (λ (v : Volume). LeavesDisk v (leave_of o) lines image now (g.D.Disk.writes c.elect.new.disk) (g.D.Disk.writes c.run_asked.new.disk) c.run_asked.result)
    c.in-Ok.ensures.states
    (c.run_asked.ensures.image image (c.in-Ok.ensures.disk.same_contents ∙ told) lines told_lines)))

pub returns-clause-text : goal.returns-clause-text
returns-clause-text g c =
    λ image told.
    let o = c.args.options.now in
    let took = g.O.Sink.took c.run_asked.new.out in
    subst (λ (due : Result Vote ElectFault). IfOk due (λ vote. ForSome (told_lines o.commands (g.S.Source.left c.args.input.now)) (λ lines.
    ForSome (g.O.Sink.took c.args.out.now) (λ before. Prints (stated_volume vote.sector) (leave_of o) lines image before took c.run_asked.result))))
    (sym (c.in-Ok.ensures.due image told))
    (λ lines told_lines before put.
    subst (λ (v : Volume). Prints v (leave_of o) lines image before took c.run_asked.result)
    c.in-Ok.ensures.states
    (c.run_asked.ensures.text image (c.in-Ok.ensures.disk.same_contents ∙ told) lines told_lines before put))

pub returns-clause-disk : goal.returns-clause-disk
returns-clause-disk g c =
    over_behind g.D.Disk.size g.D.Disk.holds g.D.Disk.faults g.D.Disk.write_faults g.D.Disk.reads g.D.Disk.writes g.D.Disk.tells_stops g.D.Disk.moment g.D.Disk.may_leave
    g.D.Disk.left_since (may_write (leave_of c.args.options.now)) (g.D.Disk.size c.args.disk.now)
    (most_of (told_lines c.args.options.now.commands (g.S.Source.left c.args.input.now))) (most_of (told_lines c.args.options.now.commands (g.S.Source.left c.args.input.now))) c.run_asked.result
    c.args.disk.now c.elect.new.disk c.run_asked.new.disk c.in-Ok.ensures.disk c.elect.ensures.reads (omega arith) c.run_asked.ensures.disk

pub returns-clause-stops : goal.returns-clause-stops
returns-clause-stops g c =
    λ image told.
    let o = c.args.options.now in
    subst (λ (due : Result Vote ElectFault). IfOk due (λ vote. ForSome (told_lines o.commands (g.S.Source.left c.args.input.now)) (λ lines.
    StopsBetween g.D.Disk.holds g.D.Disk.tells_stops g.D.Disk.moment g.D.Disk.may_leave g.D.Disk.left_since (stated_volume vote.sector) (leave_of o) lines image c.args.disk.now c.run_asked.new.disk)))
    (sym (c.in-Ok.ensures.due image told))
    (λ lines told_lines.
    subst (λ (v : Volume). StopsBetween g.D.Disk.holds g.D.Disk.tells_stops g.D.Disk.moment g.D.Disk.may_leave g.D.Disk.left_since v (leave_of o) lines image c.args.disk.now c.run_asked.new.disk)
    c.in-Ok.ensures.states
    (stops_between g.D.Disk.size g.D.Disk.holds g.D.Disk.faults g.D.Disk.write_faults g.D.Disk.reads g.D.Disk.writes g.D.Disk.tells_stops g.D.Disk.moment
    g.D.Disk.may_leave g.D.Disk.left_since _ (leave_of o) lines image c.args.disk.now c.elect.new.disk c.run_asked.new.disk told c.in-Ok.ensures.disk
    (c.run_asked.ensures.stops image (c.in-Ok.ensures.disk.same_contents ∙ told) lines told_lines)
    (λ left. g.met.D.Disk.only_now c.args.disk.now left)))

pub returns-in-Err-ReadFault-clause-stops : goal.returns-in-Err-ReadFault-clause-stops
returns-in-Err-ReadFault-clause-stops g c =
    λ image told.
    let o = c.args.options.now in
    whatever_elected (elected image)
    (λ vote. ForSome (told_lines o.commands (g.S.Source.left c.args.input.now)) (λ lines.
    StopsBetween g.D.Disk.holds g.D.Disk.tells_stops g.D.Disk.moment g.D.Disk.may_leave g.D.Disk.left_since (stated_volume vote.sector) (leave_of o) lines image c.args.disk.now c.elect.new.disk))
    (λ vote lines told_lines.
    stops_between g.D.Disk.size g.D.Disk.holds g.D.Disk.faults g.D.Disk.write_faults g.D.Disk.reads g.D.Disk.writes g.D.Disk.tells_stops g.D.Disk.moment
    g.D.Disk.may_leave g.D.Disk.left_since (stated_volume vote.sector) (leave_of o) lines image c.args.disk.now c.elect.new.disk c.elect.new.disk told c.elect.ensures.disk
    (passed_none g.D.Disk.size g.D.Disk.holds g.D.Disk.faults g.D.Disk.write_faults g.D.Disk.reads g.D.Disk.writes g.D.Disk.tells_stops g.D.Disk.moment
    g.D.Disk.may_leave g.D.Disk.left_since (stated_volume vote.sector) (leave_of o) lines image c.elect.new.disk)
    (λ left. g.met.D.Disk.only_now c.args.disk.now left))

pub returns-in-Err-NoMemory-clause-stops : goal.returns-in-Err-NoMemory-clause-stops
returns-in-Err-NoMemory-clause-stops g c =
    λ image told.
    let o = c.args.options.now in
    whatever_elected (elected image)
    (λ vote. ForSome (told_lines o.commands (g.S.Source.left c.args.input.now)) (λ lines.
    StopsBetween g.D.Disk.holds g.D.Disk.tells_stops g.D.Disk.moment g.D.Disk.may_leave g.D.Disk.left_since (stated_volume vote.sector) (leave_of o) lines image c.args.disk.now c.elect.new.disk))
    (λ vote lines told_lines.
    stops_between g.D.Disk.size g.D.Disk.holds g.D.Disk.faults g.D.Disk.write_faults g.D.Disk.reads g.D.Disk.writes g.D.Disk.tells_stops g.D.Disk.moment
    g.D.Disk.may_leave g.D.Disk.left_since (stated_volume vote.sector) (leave_of o) lines image c.args.disk.now c.elect.new.disk c.elect.new.disk told c.elect.ensures.disk
    (passed_none g.D.Disk.size g.D.Disk.holds g.D.Disk.faults g.D.Disk.write_faults g.D.Disk.reads g.D.Disk.writes g.D.Disk.tells_stops g.D.Disk.moment
    g.D.Disk.may_leave g.D.Disk.left_since (stated_volume vote.sector) (leave_of o) lines image c.elect.new.disk)
    (λ left. g.met.D.Disk.only_now c.args.disk.now left))

pub returns-in-Err-NoGeometry-clause-elected : goal.returns-in-Err-NoGeometry-clause-elected
returns-in-Err-NoGeometry-clause-elected g c =
    λ image told.
    let refused : elected image ≡ Err fault.NoGeometry = rw c.in-Err-NoGeometry.field-0-is at (c.in-Err-NoGeometry.ensures.due image told) in
    subst (λ (due : Result Vote ElectFault). HasElected due out.NoGeometry) (sym refused) (inl refl)

pub returns-in-Err-NoGeometry-clause-image : goal.returns-in-Err-NoGeometry-clause-image
returns-in-Err-NoGeometry-clause-image g c =
    λ image told.
    let refused : elected image ≡ Err fault.NoGeometry = rw c.in-Err-NoGeometry.field-0-is at (c.in-Err-NoGeometry.ensures.due image told) in
    rw refused tt

pub returns-in-Err-NoGeometry-clause-text : goal.returns-in-Err-NoGeometry-clause-text
returns-in-Err-NoGeometry-clause-text g c =
    λ image told.
    let refused : elected image ≡ Err fault.NoGeometry = rw c.in-Err-NoGeometry.field-0-is at (c.in-Err-NoGeometry.ensures.due image told) in
    rw refused tt

pub returns-in-Err-NoGeometry-clause-stops : goal.returns-in-Err-NoGeometry-clause-stops
returns-in-Err-NoGeometry-clause-stops g c =
    λ image told.
    let refused : elected image ≡ Err fault.NoGeometry = rw c.in-Err-NoGeometry.field-0-is at (c.in-Err-NoGeometry.ensures.due image told) in
    rw refused tt

pub returns-in-Err-NoGeometry-clause-input : goal.returns-in-Err-NoGeometry-clause-input
returns-in-Err-NoGeometry-clause-input g c =
    no_geometry_input c.args.options.now.commands (g.S.Source.left c.args.input.now)

pub returns-in-Err-NoGeometry-clause-silent : goal.returns-in-Err-NoGeometry-clause-silent
returns-in-Err-NoGeometry-clause-silent g c =
    λ early. refl

pub returns-in-Err-NoGeometry-clause-appends : goal.returns-in-Err-NoGeometry-clause-appends
returns-in-Err-NoGeometry-clause-appends g c =
    λ before put. ([], put ∙ ap (λ (t : List ℕ). Some t) (sym (append-nil before)))

pub returns-in-Err-NoGeometry-clause-disk : goal.returns-in-Err-NoGeometry-clause-disk
returns-in-Err-NoGeometry-clause-disk g c =
    over_early g.D.Disk.size g.D.Disk.holds g.D.Disk.faults g.D.Disk.write_faults g.D.Disk.reads g.D.Disk.writes g.D.Disk.tells_stops g.D.Disk.moment g.D.Disk.may_leave g.D.Disk.left_since
    (may_write (leave_of c.args.options.now)) (g.D.Disk.size c.args.disk.now + most_of (told_lines c.args.options.now.commands (g.S.Source.left c.args.input.now)))
    (most_of (told_lines c.args.options.now.commands (g.S.Source.left c.args.input.now))) out.NoGeometry c.args.disk.now c.elect.new.disk refl refl c.elect.ensures.disk
    (omega (arith, c.elect.ensures.reads))

pub returns-in-Err-NoGeometry-clause-cause : goal.returns-in-Err-NoGeometry-clause-cause
returns-in-Err-NoGeometry-clause-cause g c =
    tt

pub returns-in-Err-Unsupported-clause-image : goal.returns-in-Err-Unsupported-clause-image
returns-in-Err-Unsupported-clause-image g c =
    λ image told.
    let refused : elected image ≡ Err (fault.Unsupported c.in-Err-Unsupported.word c.in-Err-Unsupported.bits) = rw c.in-Err-Unsupported.field-0-is at (c.in-Err-Unsupported.ensures.due image told) in
    rw refused tt

pub returns-in-Err-Unsupported-clause-text : goal.returns-in-Err-Unsupported-clause-text
returns-in-Err-Unsupported-clause-text g c =
    λ image told.
    let refused : elected image ≡ Err (fault.Unsupported c.in-Err-Unsupported.word c.in-Err-Unsupported.bits) = rw c.in-Err-Unsupported.field-0-is at (c.in-Err-Unsupported.ensures.due image told) in
    rw refused tt

pub returns-in-Err-Unsupported-clause-stops : goal.returns-in-Err-Unsupported-clause-stops
returns-in-Err-Unsupported-clause-stops g c =
    λ image told.
    let refused : elected image ≡ Err (fault.Unsupported c.in-Err-Unsupported.word c.in-Err-Unsupported.bits) = rw c.in-Err-Unsupported.field-0-is at (c.in-Err-Unsupported.ensures.due image told) in
    rw refused tt

pub returns-in-Err-Unsupported-clause-input : goal.returns-in-Err-Unsupported-clause-input
returns-in-Err-Unsupported-clause-input g c =
    unsupported_input c.args.options.now.commands (g.S.Source.left c.args.input.now) _ _

pub returns-in-Err-Unsupported-clause-silent : goal.returns-in-Err-Unsupported-clause-silent
returns-in-Err-Unsupported-clause-silent g c =
    λ early. refl

pub returns-in-Err-Unsupported-clause-appends : goal.returns-in-Err-Unsupported-clause-appends
returns-in-Err-Unsupported-clause-appends g c =
    λ before put. ([], put ∙ ap (λ (t : List ℕ). Some t) (sym (append-nil before)))

pub returns-in-Err-Unsupported-clause-disk : goal.returns-in-Err-Unsupported-clause-disk
returns-in-Err-Unsupported-clause-disk g c =
    over_early g.D.Disk.size g.D.Disk.holds g.D.Disk.faults g.D.Disk.write_faults g.D.Disk.reads g.D.Disk.writes g.D.Disk.tells_stops g.D.Disk.moment g.D.Disk.may_leave g.D.Disk.left_since
    (may_write (leave_of c.args.options.now)) (g.D.Disk.size c.args.disk.now + most_of (told_lines c.args.options.now.commands (g.S.Source.left c.args.input.now)))
    (most_of (told_lines c.args.options.now.commands (g.S.Source.left c.args.input.now))) _ c.args.disk.now c.elect.new.disk refl refl c.elect.ensures.disk
    (omega (arith, c.elect.ensures.reads))

pub returns-in-Err-Unsupported-clause-cause : goal.returns-in-Err-Unsupported-clause-cause
returns-in-Err-Unsupported-clause-cause g c =
    tt

pub returns-in-Err-ReadFault-clause-elected : goal.returns-in-Err-ReadFault-clause-elected
returns-in-Err-ReadFault-clause-elected g c =
    λ image told. undecided (elected image) (out.ReadFault 0) (inl refl)

pub returns-in-Err-ReadFault-clause-image : goal.returns-in-Err-ReadFault-clause-image
returns-in-Err-ReadFault-clause-image g c =
    λ image told.
    let o = c.args.options.now in
    whatever_elected (elected image)
    (λ vote. ForSome (told_lines o.commands (g.S.Source.left c.args.input.now)) (λ lines.
    LeavesDisk (stated_volume vote.sector) (leave_of o) lines image (g.D.Disk.holds c.elect.new.disk) (g.D.Disk.writes c.args.disk.now) (g.D.Disk.writes c.elect.new.disk) (out.ReadFault 0)))
    (λ vote lines told_lines. record {
      image_is = c.elect.ensures.disk.same_contents ∙ told;
      writes_are = c.elect.ensures.disk.same_writes;
      finished_are = (omega arith, refl);
    })

pub returns-in-Err-ReadFault-clause-text : goal.returns-in-Err-ReadFault-clause-text
returns-in-Err-ReadFault-clause-text g c =
    λ image told.
    let o = c.args.options.now in
    whatever_elected (elected image)
    (λ vote. ForSome (told_lines o.commands (g.S.Source.left c.args.input.now)) (λ lines.
    ForSome (g.O.Sink.took c.args.out.now) (λ before. Prints (stated_volume vote.sector) (leave_of o) lines image before (g.O.Sink.took c.args.out.now) (out.ReadFault 0))))
    (λ vote lines told_lines before put. put ∙ ap (λ (t : List ℕ). Some t) (sym (append-nil before)))

pub returns-in-Err-ReadFault-clause-input : goal.returns-in-Err-ReadFault-clause-input
returns-in-Err-ReadFault-clause-input g c =
    unread_input c.args.options.now.commands (g.S.Source.left c.args.input.now)

pub returns-in-Err-ReadFault-clause-silent : goal.returns-in-Err-ReadFault-clause-silent
returns-in-Err-ReadFault-clause-silent g c =
    λ early. refl

pub returns-in-Err-ReadFault-clause-appends : goal.returns-in-Err-ReadFault-clause-appends
returns-in-Err-ReadFault-clause-appends g c =
    λ before put. ([], put ∙ ap (λ (t : List ℕ). Some t) (sym (append-nil before)))

pub returns-in-Err-ReadFault-clause-disk : goal.returns-in-Err-ReadFault-clause-disk
returns-in-Err-ReadFault-clause-disk g c =
    over_early g.D.Disk.size g.D.Disk.holds g.D.Disk.faults g.D.Disk.write_faults g.D.Disk.reads g.D.Disk.writes g.D.Disk.tells_stops g.D.Disk.moment g.D.Disk.may_leave g.D.Disk.left_since
    (may_write (leave_of c.args.options.now)) (g.D.Disk.size c.args.disk.now + most_of (told_lines c.args.options.now.commands (g.S.Source.left c.args.input.now)))
    (most_of (told_lines c.args.options.now.commands (g.S.Source.left c.args.input.now))) (out.ReadFault 0) c.args.disk.now c.elect.new.disk refl refl c.elect.ensures.disk
    (omega (arith, c.elect.ensures.reads))

pub returns-in-Err-ReadFault-clause-cause : goal.returns-in-Err-ReadFault-clause-cause
returns-in-Err-ReadFault-clause-cause g c =
    rw c.in-Err-ReadFault.field-0-is at c.in-Err-ReadFault.ensures.cause

pub returns-in-Err-NoMemory-clause-elected : goal.returns-in-Err-NoMemory-clause-elected
returns-in-Err-NoMemory-clause-elected g c =
    λ image told. undecided (elected image) (out.NoMemory 0) (inr refl)

pub returns-in-Err-NoMemory-clause-image : goal.returns-in-Err-NoMemory-clause-image
returns-in-Err-NoMemory-clause-image g c =
    λ image told.
    let o = c.args.options.now in
    whatever_elected (elected image)
    (λ vote. ForSome (told_lines o.commands (g.S.Source.left c.args.input.now)) (λ lines.
    LeavesDisk (stated_volume vote.sector) (leave_of o) lines image (g.D.Disk.holds c.elect.new.disk) (g.D.Disk.writes c.args.disk.now) (g.D.Disk.writes c.elect.new.disk) (out.NoMemory 0)))
    (λ vote lines told_lines. record {
      image_is = c.elect.ensures.disk.same_contents ∙ told;
      writes_are = c.elect.ensures.disk.same_writes;
      finished_are = (omega arith, refl);
    })

pub returns-in-Err-NoMemory-clause-text : goal.returns-in-Err-NoMemory-clause-text
returns-in-Err-NoMemory-clause-text g c =
    λ image told.
    let o = c.args.options.now in
    whatever_elected (elected image)
    (λ vote. ForSome (told_lines o.commands (g.S.Source.left c.args.input.now)) (λ lines.
    ForSome (g.O.Sink.took c.args.out.now) (λ before. Prints (stated_volume vote.sector) (leave_of o) lines image before (g.O.Sink.took c.args.out.now) (out.NoMemory 0))))
    (λ vote lines told_lines before put. put ∙ ap (λ (t : List ℕ). Some t) (sym (append-nil before)))

pub returns-in-Err-NoMemory-clause-input : goal.returns-in-Err-NoMemory-clause-input
returns-in-Err-NoMemory-clause-input g c =
    no_memory_input c.args.options.now.commands (g.S.Source.left c.args.input.now)

pub returns-in-Err-NoMemory-clause-silent : goal.returns-in-Err-NoMemory-clause-silent
returns-in-Err-NoMemory-clause-silent g c =
    λ early. refl

pub returns-in-Err-NoMemory-clause-appends : goal.returns-in-Err-NoMemory-clause-appends
returns-in-Err-NoMemory-clause-appends g c =
    λ before put. ([], put ∙ ap (λ (t : List ℕ). Some t) (sym (append-nil before)))

pub returns-in-Err-NoMemory-clause-disk : goal.returns-in-Err-NoMemory-clause-disk
returns-in-Err-NoMemory-clause-disk g c =
    over_early g.D.Disk.size g.D.Disk.holds g.D.Disk.faults g.D.Disk.write_faults g.D.Disk.reads g.D.Disk.writes g.D.Disk.tells_stops g.D.Disk.moment g.D.Disk.may_leave g.D.Disk.left_since
    (may_write (leave_of c.args.options.now)) (g.D.Disk.size c.args.disk.now + most_of (told_lines c.args.options.now.commands (g.S.Source.left c.args.input.now)))
    (most_of (told_lines c.args.options.now.commands (g.S.Source.left c.args.input.now))) (out.NoMemory 0) c.args.disk.now c.elect.new.disk refl refl c.elect.ensures.disk
    (omega (arith, c.elect.ensures.reads))

pub returns-in-Err-NoMemory-clause-cause : goal.returns-in-Err-NoMemory-clause-cause
returns-in-Err-NoMemory-clause-cause g c =
    tt

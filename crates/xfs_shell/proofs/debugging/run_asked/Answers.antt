use Rattle.std.proofs.Common.{◌==◌, ◌∙◌, ap, sym, subst, ℕ, List, Option, length}
use Rattle.xfs_geom.specs.Volumes.{volume_of}
use Rattle.xfs_shell.specs.Running.{may_write}
use Rattle.xfs_shell.specs.Shells.{LeavesDisk, Prints, RunsOver, leave_of, most_of}
use Rattle.xfs_shell.specs.Stops.{HasPassed}
use Rattle.xfs_shell.proofs.Asked.{asked_lines, asked_most, commands_ran, input_asked, input_told_lines, past_lines}
use Rattle.xfs_shell.proofs.debugging.run_asked.Goals as goal

pub returns-then-is_empty-clause-input : goal.returns-then-is_empty-clause-input
returns-then-is_empty-clause-input g c =
    input_asked c.args.options.now.commands (g.S.Source.left c.args.input.now) c.run_input.result
    (ap (λ (ls : List (List ℕ)). length ls == 0) (sym c.as_slice-commands.ensures) ∙ sym c.is_empty.ensures ∙ c.if-is_empty.true)
    c.run_input.ensures.input

pub returns-then-is_empty-clause-image : goal.returns-then-is_empty-clause-image
returns-then-is_empty-clause-image g c =
    λ image told lines told_lines.
    c.run_input.ensures.image image told lines
    (sym (input_told_lines c.args.options.now.commands (g.S.Source.left c.args.input.now)
    (ap (λ (ls : List (List ℕ)). length ls == 0) (sym c.as_slice-commands.ensures) ∙ sym c.is_empty.ensures ∙ c.if-is_empty.true))
    ∙ told_lines)

pub returns-then-is_empty-clause-text : goal.returns-then-is_empty-clause-text
returns-then-is_empty-clause-text g c =
    λ image told lines told_lines before put.
    c.run_input.ensures.text image told lines
    (sym (input_told_lines c.args.options.now.commands (g.S.Source.left c.args.input.now)
    (ap (λ (ls : List (List ℕ)). length ls == 0) (sym c.as_slice-commands.ensures) ∙ sym c.is_empty.ensures ∙ c.if-is_empty.true))
    ∙ told_lines) before put

pub returns-then-is_empty-clause-disk : goal.returns-then-is_empty-clause-disk
returns-then-is_empty-clause-disk g c =
    subst (λ (ls : Option (List (List ℕ))).
    RunsOver g.D.Disk.size g.D.Disk.holds g.D.Disk.reads g.D.Disk.writes g.D.Disk.write_faults g.D.Disk.tells_stops g.D.Disk.moment g.D.Disk.may_leave
    g.D.Disk.left_since (may_write (leave_of c.args.options.now)) (most_of ls) (most_of ls) c.args.disk.now c.run_input.new.disk c.run_input.result)
    (sym (input_told_lines c.args.options.now.commands (g.S.Source.left c.args.input.now)
    (ap (λ (ls : List (List ℕ)). length ls == 0) (sym c.as_slice-commands.ensures) ∙ sym c.is_empty.ensures ∙ c.if-is_empty.true)))
    c.run_input.ensures.disk

pub returns-else-is_empty-clause-past : goal.returns-else-is_empty-clause-past
returns-else-is_empty-clause-past g c =
    past_lines c.run_lines.result c.run_lines.ensures.ran

pub returns-else-is_empty-clause-input : goal.returns-else-is_empty-clause-input
returns-else-is_empty-clause-input g c =
    commands_ran c.args.options.now.commands (g.S.Source.left c.args.input.now) c.run_lines.result
    (ap (λ (ls : List (List ℕ)). length ls == 0) (sym c.as_slice-commands.ensures) ∙ sym c.is_empty.ensures ∙ c.if-is_empty.false)
    c.run_lines.ensures.ran

pub returns-else-is_empty-clause-image : goal.returns-else-is_empty-clause-image
returns-else-is_empty-clause-image g c =
    λ image told lines told_lines.
    subst (λ (ls : List (List ℕ)).
    LeavesDisk (volume_of c.args.geometry.now) (leave_of c.args.options.now) ls image (g.D.Disk.holds c.run_lines.new.disk) (g.D.Disk.writes c.args.disk.now)
    (g.D.Disk.writes c.run_lines.new.disk) c.run_lines.result)
    (asked_lines c.args.options.now.commands (g.S.Source.left c.args.input.now) c.as_slice-commands.result.now lines c.as_slice-commands.ensures
    (ap (λ (ls : List (List ℕ)). length ls == 0) (sym c.as_slice-commands.ensures) ∙ sym c.is_empty.ensures ∙ c.if-is_empty.false)
    told_lines)
    (c.run_lines.ensures.image image told)

pub returns-else-is_empty-clause-text : goal.returns-else-is_empty-clause-text
returns-else-is_empty-clause-text g c =
    λ image told lines told_lines before put.
    subst (λ (ls : List (List ℕ)).
    Prints (volume_of c.args.geometry.now) (leave_of c.args.options.now) ls image before (g.O.Sink.took c.run_lines.new.out) c.run_lines.result)
    (asked_lines c.args.options.now.commands (g.S.Source.left c.args.input.now) c.as_slice-commands.result.now lines c.as_slice-commands.ensures
    (ap (λ (ls : List (List ℕ)). length ls == 0) (sym c.as_slice-commands.ensures) ∙ sym c.is_empty.ensures ∙ c.if-is_empty.false)
    told_lines)
    (c.run_lines.ensures.text image told before put)

pub returns-else-is_empty-clause-disk : goal.returns-else-is_empty-clause-disk
returns-else-is_empty-clause-disk g c =
    subst (λ (n : ℕ).
    RunsOver g.D.Disk.size g.D.Disk.holds g.D.Disk.reads g.D.Disk.writes g.D.Disk.write_faults g.D.Disk.tells_stops g.D.Disk.moment g.D.Disk.may_leave
    g.D.Disk.left_since (may_write (leave_of c.args.options.now)) n n c.args.disk.now c.run_lines.new.disk c.run_lines.result)
    (asked_most c.args.options.now.commands (g.S.Source.left c.args.input.now) c.as_slice-commands.result.now c.as_slice-commands.ensures
    (ap (λ (ls : List (List ℕ)). length ls == 0) (sym c.as_slice-commands.ensures) ∙ sym c.is_empty.ensures ∙ c.if-is_empty.false))
    c.run_lines.ensures.disk

pub returns-else-is_empty-clause-cause : goal.returns-else-is_empty-clause-cause
returns-else-is_empty-clause-cause g c =
    c.run_lines.ensures.cause (g.S.Source.faults c.args.input.now) (g.S.Source.faults c.args.input.now)

pub returns-then-is_empty-clause-stops : goal.returns-then-is_empty-clause-stops
returns-then-is_empty-clause-stops g c =
    λ image told lines told_lines.
    c.run_input.ensures.stops image told lines
    (sym (input_told_lines c.args.options.now.commands (g.S.Source.left c.args.input.now)
    (ap (λ (ls : List (List ℕ)). length ls == 0) (sym c.as_slice-commands.ensures) ∙ sym c.is_empty.ensures ∙ c.if-is_empty.true))
    ∙ told_lines)

pub returns-else-is_empty-clause-stops : goal.returns-else-is_empty-clause-stops
returns-else-is_empty-clause-stops g c =
    λ image told lines told_lines.
    subst (λ (ls : List (List ℕ)). HasPassed g.D.Disk.holds g.D.Disk.tells_stops g.D.Disk.moment g.D.Disk.may_leave g.D.Disk.left_since (volume_of c.args.geometry.now) (leave_of c.args.options.now) ls image c.args.disk.now c.run_lines.new.disk)
    (asked_lines c.args.options.now.commands (g.S.Source.left c.args.input.now) c.as_slice-commands.result.now lines c.as_slice-commands.ensures
    (ap (λ (ls : List (List ℕ)). length ls == 0) (sym c.as_slice-commands.ensures) ∙ sym c.is_empty.ensures ∙ c.if-is_empty.false)
    told_lines)
    (c.run_lines.ensures.stops image told)

use Rattle.std.proofs.Common.{◌≡◌, ◌∙◌, ◌++◌, [], List, None, Some, ap, arith, length, refl, subst, sym, take, ℕ}
use Rattle.std.proofs.lemmas.List.{append-nil}
use Rattle.xfs_geom.specs.Volumes.{volume_of}
use Rattle.xfs_commands.specs.Commands.{session_of}
use Rattle.xfs_shell.specs.LineParts.{line_parts}
use Rattle.xfs_shell.specs.Running.{attempts, block_at_place, may_write}
use Rattle.xfs_shell.specs.declared.line_parts.Cut.TheVariants.{Blanks}
use Rattle.xfs_shell.proofs.Ending.{counts_of, line_cause, part_put, stands_behind}
use Rattle.xfs_shell.proofs.Stepping.{step_cause}
use Rattle.xfs_shell.proofs.running.run_and_put.Goals as goal

pub returns-in-Err-clause-image : goal.returns-in-Err-clause-image
returns-in-Err-clause-image g c =
    λ image told. c.in-Err.ensures.outcome image told

pub returns-in-Err-clause-text : goal.returns-in-Err-clause-text
returns-in-Err-clause-text g c =
    λ image told before took. took

pub returns-in-Err-clause-silent : goal.returns-in-Err-clause-silent
returns-in-Err-clause-silent g c =
    λ halted. refl

pub returns-in-Err-clause-appends : goal.returns-in-Err-clause-appends
returns-in-Err-clause-appends g c =
    λ before took. ([], took ∙ ap (λ (t : List ℕ). Some t) (sym (append-nil before)))

pub returns-in-Err-clause-passes : goal.returns-in-Err-clause-passes
returns-in-Err-clause-passes g c =
    c.in-Err.ensures.passes

pub returns-in-Err-clause-disk : goal.returns-in-Err-clause-disk
returns-in-Err-clause-disk g c =
    c.in-Err.ensures.disk

pub returns-in-Err-clause-quits : goal.returns-in-Err-clause-quits
returns-in-Err-clause-quits g c =
    c.in-Err.ensures.quits

pub returns-in-Err-clause-counts : goal.returns-in-Err-clause-counts
returns-in-Err-clause-counts g c =
    let step =
    step_cause g.D.Disk.size g.D.Disk.holds g.D.Disk.faults g.D.Disk.write_faults g.D.Disk.reads g.D.Disk.writes g.D.Disk.tells_stops g.D.Disk.moment
    g.D.Disk.may_leave g.D.Disk.left_since (may_write c.args.leave) c.args.disk.now c.run_line.new.disk (Some c.in-Err.stop) c.in-Err.ensures.disk
    in
    counts_of _ _ _ _ _ _ (Some c.in-Err.stop) step (omega arith)

pub returns-in-Err-clause-cause : goal.returns-in-Err-clause-cause
returns-in-Err-clause-cause g c =
    line_cause _ _ _ _ (g.O.Sink.faults c.args.out.now) (g.O.Sink.faults c.args.out.now) c.in-Err.stop
    (step_cause g.D.Disk.size g.D.Disk.holds g.D.Disk.faults g.D.Disk.write_faults g.D.Disk.reads g.D.Disk.writes g.D.Disk.tells_stops g.D.Disk.moment
    g.D.Disk.may_leave g.D.Disk.left_since (may_write c.args.leave) c.args.disk.now c.run_line.new.disk (Some c.in-Err.stop) c.in-Err.ensures.disk)

pub returns-in-Ok-put-clause-image : goal.returns-in-Ok-put-clause-image
returns-in-Ok-put-clause-image g c =
    λ image told. stands_behind _ _ _ _ _ _ _ _ _ (c.in-Ok.ensures.outcome image told)

pub returns-in-Ok-put-clause-text : goal.returns-in-Ok-put-clause-text
returns-in-Ok-put-clause-text g c =
    λ image told before took.
    let run = c.in-Ok.ensures.outcome image told in
    c.in-Ok-put.ensures.whole before took
    ∙ ap (λ (bytes : List ℕ). Some (before ++ bytes)) (c.as_slice.ensures.value ∙ run.text_is ∙ ap (λ (bytes : List ℕ). bytes ++ (attempts (volume_of c.args.geometry.now) c.args.leave (line_parts Blanks c.args.line.now) (block_at_place image c.args.cursor.now.at) (session_of c.args.cursor.now)).text) c.new-text.ensures.items)

pub returns-in-Ok-put-clause-silent : goal.returns-in-Ok-put-clause-silent
returns-in-Ok-put-clause-silent g c =
    λ halted. absurd halted

pub returns-in-Ok-put-clause-appends : goal.returns-in-Ok-put-clause-appends
returns-in-Ok-put-clause-appends g c =
    λ before took. (c.as_slice.result.now, c.in-Ok-put.ensures.whole before took)

pub returns-in-Ok-put-clause-passes : goal.returns-in-Ok-put-clause-passes
returns-in-Ok-put-clause-passes g c =
    c.in-Ok.ensures.passes

pub returns-in-Ok-put-clause-disk : goal.returns-in-Ok-put-clause-disk
returns-in-Ok-put-clause-disk g c =
    c.in-Ok.ensures.disk

pub returns-in-Ok-put-clause-quits : goal.returns-in-Ok-put-clause-quits
returns-in-Ok-put-clause-quits g c =
    c.in-Ok.ensures.quits

pub returns-in-Ok-put-clause-counts : goal.returns-in-Ok-put-clause-counts
returns-in-Ok-put-clause-counts g c =
    let step =
    step_cause g.D.Disk.size g.D.Disk.holds g.D.Disk.faults g.D.Disk.write_faults g.D.Disk.reads g.D.Disk.writes g.D.Disk.tells_stops g.D.Disk.moment
    g.D.Disk.may_leave g.D.Disk.left_since (may_write c.args.leave) c.args.disk.now c.run_line.new.disk None c.in-Ok.ensures.disk
    in
    counts_of _ _ _ _ _ _ None step c.in-Ok-put.ensures.cause

pub returns-in-Ok-put-clause-cause : goal.returns-in-Ok-put-clause-cause
returns-in-Ok-put-clause-cause g c =
    tt

pub returns-clause-image : goal.returns-clause-image
returns-clause-image g c =
    λ image told.
    let run = c.in-Ok.ensures.outcome image told in
    (run.image_is, run.writes_are)

pub returns-clause-text : goal.returns-clause-text
returns-clause-text g c =
    λ image told before took.
    let run = c.in-Ok.ensures.outcome image told in
    part_put before c.as_slice.result.now (attempts (volume_of c.args.geometry.now) c.args.leave (line_parts Blanks c.args.line.now) (block_at_place image c.args.cursor.now.at) (session_of c.args.cursor.now)).text _ (c.as_slice.ensures.value ∙ run.text_is ∙ ap (λ (bytes : List ℕ). bytes ++ (attempts (volume_of c.args.geometry.now) c.args.leave (line_parts Blanks c.args.line.now) (block_at_place image c.args.cursor.now.at) (session_of c.args.cursor.now)).text) c.new-text.ensures.items) (c.in-Err-put.ensures.part before took)

pub returns-clause-silent : goal.returns-clause-silent
returns-clause-silent g c =
    λ halted. absurd halted

pub returns-clause-appends : goal.returns-clause-appends
returns-clause-appends g c =
    λ before took.
    let part = c.in-Err-put.ensures.part before took in
    (take part.0 c.as_slice.result.now, part.2)

pub returns-clause-passes : goal.returns-clause-passes
returns-clause-passes g c =
    c.in-Ok.ensures.passes

pub returns-clause-disk : goal.returns-clause-disk
returns-clause-disk g c =
    c.in-Ok.ensures.disk

pub returns-clause-quits : goal.returns-clause-quits
returns-clause-quits g c =
    λ is. tt

pub returns-clause-counts : goal.returns-clause-counts
returns-clause-counts g c =
    let step =
    step_cause g.D.Disk.size g.D.Disk.holds g.D.Disk.faults g.D.Disk.write_faults g.D.Disk.reads g.D.Disk.writes g.D.Disk.tells_stops g.D.Disk.moment
    g.D.Disk.may_leave g.D.Disk.left_since (may_write c.args.leave) c.args.disk.now c.run_line.new.disk None c.in-Ok.ensures.disk
    in
    counts_of _ _ _ _ _ _ None step c.in-Err-put.ensures.cause.0

pub returns-clause-cause : goal.returns-clause-cause
returns-clause-cause g c =
    c.in-Err-put.ensures.cause

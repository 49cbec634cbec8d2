use Rattle.std.proofs.Common.{◌≡◌, ◌∙◌, ◌++◌, [], Some, List, ℕ, take, sym, subst, ap, append_assoc, arith}
use Rattle.xfs_geom.specs.Volumes.{volume_of}
use Rattle.xfs_commands.specs.Commands.{session_of}
use Rattle.xfs_commands.specs.Cursors.{is_quit}
use Rattle.xfs_shell.specs.LineParts.{line_parts}
use Rattle.xfs_shell.specs.Running.{is_quit_words, may_write, shelled, until_quit}
use Rattle.xfs_shell.specs.Shells.{HasSessionCause, IsEarly, IsOfLines, LeavesDisk, Prints, RunsOver}
use Rattle.xfs_shell.specs.declared.line_parts.Cut.TheVariants.{Blanks}
use Rattle.xfs_shell.specs.declared.outcomes.ShellOutcome.{ShellOutcome}
use Rattle.xfs_shell.proofs.Ending.{at_end, cause_behind, early_first, line_ended, line_is, next_image, quitted, ran_lines, stepped, text_at_end, text_ended, text_quitted, text_stepped}
use Rattle.xfs_shell.proofs.Passing.{passed_more}
use Rattle.xfs_shell.proofs.Quitting.{no_quit, quit_next, quit_some}
use Rattle.xfs_shell.proofs.Stepping.{end_counted, over_done, over_ended, run_more}
use Rattle.xfs_shell.proofs.running.run_lines.Goals as goal

pub returns-then-is_quit-clause-image : goal.returns-then-is_quit-clause-image
returns-then-is_quit-clause-image g c =
    λ image told.
    let v = volume_of c.args.geometry.now in
    let leave = c.args.leave in
    let lines = c.args.lines.now in
    let i = c.loop-finished.finished in
    let s = session_of c.loop-finished.cursor in
    let r = shelled v leave (take i lines) image in
    let at = c.loop-finished.invariant.at image told in
    let same = line_is lines i c.word_at-line.result.now c.word_at-line.ensures c.loop-finished-test.true in
    quitted v leave lines image i c.word_at-line.result.now [] s (g.D.Disk.holds c.loop-finished.disk) (g.D.Disk.writes c.args.disk.now) (g.D.Disk.writes c.loop-finished.disk) c.in-Ok.verdict (session_of c.run_and_put.new.cursor) (g.D.Disk.holds c.run_and_put.new.disk) (g.D.Disk.writes c.run_and_put.new.disk)
    c.loop-finished-test.true same at (c.in-Ok.ensures.image r.image at.image_is) (sym c.is_quit.ensures ∙ c.if-is_quit.true)

pub returns-then-is_quit-clause-text : goal.returns-then-is_quit-clause-text
returns-then-is_quit-clause-text g c =
    λ image told before put.
    let v = volume_of c.args.geometry.now in
    let leave = c.args.leave in
    let lines = c.args.lines.now in
    let i = c.loop-finished.finished in
    let s = session_of c.loop-finished.cursor in
    let r = shelled v leave (take i lines) image in
    let at = c.loop-finished.invariant.at image told in
    let same = line_is lines i c.word_at-line.result.now c.word_at-line.ensures c.loop-finished-test.true in
    text_quitted v leave lines image i c.word_at-line.result.now [] s (g.D.Disk.holds c.loop-finished.disk) (g.D.Disk.writes c.args.disk.now) (g.D.Disk.writes c.loop-finished.disk) c.in-Ok.verdict (session_of c.run_and_put.new.cursor) (g.D.Disk.holds c.run_and_put.new.disk) (g.D.Disk.writes c.run_and_put.new.disk)
    before (g.O.Sink.took c.run_and_put.new.out) c.loop-finished-test.true same at (c.in-Ok.ensures.image r.image at.image_is) (sym c.is_quit.ensures ∙ c.if-is_quit.true)
    (c.in-Ok.ensures.text r.image at.image_is (before ++ r.text) (c.loop-finished.invariant.text image told before put))

pub returns-then-is_quit-clause-appends : goal.returns-then-is_quit-clause-appends
returns-then-is_quit-clause-appends g c =
    λ before put.
    let so_far = c.loop-finished.invariant.appends before put in
    let more = c.in-Ok.ensures.appends (before ++ so_far.0) so_far.1 in
    (so_far.0 ++ more.0, more.1 ∙ ap (λ (t : List ℕ). Some t) (append_assoc before so_far.0 more.0))

pub returns-then-is_quit-clause-disk : goal.returns-then-is_quit-clause-disk
returns-then-is_quit-clause-disk g c =
    over_done g.D.Disk.size g.D.Disk.holds g.D.Disk.faults g.D.Disk.write_faults g.D.Disk.reads g.D.Disk.writes g.D.Disk.tells_stops g.D.Disk.moment g.D.Disk.may_leave g.D.Disk.left_since (may_write c.args.leave) _ _ _ _
    (run_more g.D.Disk.size g.D.Disk.holds g.D.Disk.faults g.D.Disk.write_faults g.D.Disk.reads g.D.Disk.writes g.D.Disk.tells_stops g.D.Disk.moment g.D.Disk.may_leave g.D.Disk.left_since (may_write c.args.leave) _ _ _ _ c.loop-finished.invariant.run c.in-Ok.ensures.disk)
    (omega (arith, c.loop-finished.invariant.quits, quit_some c.args.lines.now c.loop-finished.finished [] c.loop-finished-test.true))

pub returns-clause-image : goal.returns-clause-image
returns-clause-image g c =
    λ image told.
    at_end (volume_of c.args.geometry.now) c.args.leave c.args.lines.now image c.loop-finished.finished (session_of c.loop-finished.cursor) _ _ _
    c.loop-finished-test.false (c.loop-finished.invariant.at image told)

pub returns-clause-text : goal.returns-clause-text
returns-clause-text g c =
    λ image told before put.
    text_at_end (volume_of c.args.geometry.now) c.args.leave c.args.lines.now image c.loop-finished.finished before _
    c.loop-finished-test.false (c.loop-finished.invariant.text image told before put)

pub returns-clause-disk : goal.returns-clause-disk
returns-clause-disk g c =
    over_done g.D.Disk.size g.D.Disk.holds g.D.Disk.faults g.D.Disk.write_faults g.D.Disk.reads g.D.Disk.writes g.D.Disk.tells_stops g.D.Disk.moment g.D.Disk.may_leave g.D.Disk.left_since (may_write c.args.leave) _ _ _ _ c.loop-finished.invariant.run
    (omega (arith, c.loop-finished.invariant.quits))

pub returns-in-Err-clause-ran : goal.returns-in-Err-clause-ran
returns-in-Err-clause-ran g c =
    subst (λ (o : ShellOutcome). IsOfLines o) (sym c.behind.ensures)
    (ran_lines c.loop-finished.finished c.in-Err.end)

pub returns-in-Err-clause-image : goal.returns-in-Err-clause-image
returns-in-Err-clause-image g c =
    λ image told.
    let v = volume_of c.args.geometry.now in
    let leave = c.args.leave in
    let lines = c.args.lines.now in
    let i = c.loop-finished.finished in
    let s = session_of c.loop-finished.cursor in
    let r = shelled v leave (take i lines) image in
    let at = c.loop-finished.invariant.at image told in
    let same = line_is lines i c.word_at-line.result.now c.word_at-line.ensures c.loop-finished-test.true in
    subst (λ (o : ShellOutcome). LeavesDisk v leave lines image (g.D.Disk.holds c.run_and_put.new.disk) (g.D.Disk.writes c.args.disk.now) (g.D.Disk.writes c.run_and_put.new.disk) o) (sym c.behind.ensures)
    (line_ended v leave lines image i c.word_at-line.result.now [] s (g.D.Disk.holds c.loop-finished.disk) (g.D.Disk.writes c.args.disk.now) (g.D.Disk.writes c.loop-finished.disk) c.in-Err.end (session_of c.run_and_put.new.cursor) (g.D.Disk.holds c.run_and_put.new.disk) (g.D.Disk.writes c.run_and_put.new.disk)
    c.loop-finished-test.true same at
    (end_counted g.D.Disk.size g.D.Disk.holds g.D.Disk.faults g.D.Disk.write_faults g.D.Disk.reads g.D.Disk.writes g.D.Disk.tells_stops g.D.Disk.moment g.D.Disk.may_leave g.D.Disk.left_since (may_write leave) c.in-Err.end c.loop-finished.disk c.run_and_put.new.disk c.in-Err.ensures.disk)
    (c.in-Err.ensures.image r.image at.image_is))

pub returns-in-Err-clause-text : goal.returns-in-Err-clause-text
returns-in-Err-clause-text g c =
    λ image told before put.
    let v = volume_of c.args.geometry.now in
    let leave = c.args.leave in
    let lines = c.args.lines.now in
    let i = c.loop-finished.finished in
    let s = session_of c.loop-finished.cursor in
    let r = shelled v leave (take i lines) image in
    let at = c.loop-finished.invariant.at image told in
    let same = line_is lines i c.word_at-line.result.now c.word_at-line.ensures c.loop-finished-test.true in
    subst (λ (o : ShellOutcome). Prints v leave lines image before (g.O.Sink.took c.run_and_put.new.out) o) (sym c.behind.ensures)
    (text_ended v leave lines image i c.word_at-line.result.now [] s (g.D.Disk.holds c.loop-finished.disk) (g.D.Disk.writes c.args.disk.now) (g.D.Disk.writes c.loop-finished.disk) c.in-Err.end before (g.O.Sink.took c.run_and_put.new.out)
    c.loop-finished-test.true same at
    (c.in-Err.ensures.text r.image at.image_is (before ++ r.text) (c.loop-finished.invariant.text image told before put)))

pub returns-in-Err-clause-silent : goal.returns-in-Err-clause-silent
returns-in-Err-clause-silent g c =
    subst (λ (o : ShellOutcome). IsEarly o → g.O.Sink.took c.run_and_put.new.out ≡ g.O.Sink.took c.args.out.now) (sym c.behind.ensures)
    (λ early.
    let first = early_first c.loop-finished.finished c.in-Err.end early in
    c.in-Err.ensures.silent first.1 ∙ c.loop-finished.invariant.silent first.0)

pub returns-in-Err-clause-appends : goal.returns-in-Err-clause-appends
returns-in-Err-clause-appends g c =
    λ before put.
    let so_far = c.loop-finished.invariant.appends before put in
    let more = c.in-Err.ensures.appends (before ++ so_far.0) so_far.1 in
    (so_far.0 ++ more.0, more.1 ∙ ap (λ (t : List ℕ). Some t) (append_assoc before so_far.0 more.0))

pub returns-in-Err-clause-disk : goal.returns-in-Err-clause-disk
returns-in-Err-clause-disk g c =
    subst (λ (o : ShellOutcome). RunsOver g.D.Disk.size g.D.Disk.holds g.D.Disk.reads g.D.Disk.writes g.D.Disk.write_faults g.D.Disk.tells_stops g.D.Disk.moment g.D.Disk.may_leave g.D.Disk.left_since (may_write c.args.leave) (until_quit c.args.lines.now) (until_quit c.args.lines.now) c.args.disk.now c.run_and_put.new.disk o) (sym c.behind.ensures)
    (over_ended g.D.Disk.size g.D.Disk.holds g.D.Disk.faults g.D.Disk.write_faults g.D.Disk.reads g.D.Disk.writes g.D.Disk.tells_stops g.D.Disk.moment g.D.Disk.may_leave g.D.Disk.left_since (may_write c.args.leave) c.loop-finished.finished (until_quit c.args.lines.now) c.in-Err.end c.args.disk.now c.loop-finished.disk c.run_and_put.new.disk
    c.loop-finished.invariant.run (omega (arith, c.loop-finished.invariant.quits, quit_some c.args.lines.now c.loop-finished.finished [] c.loop-finished-test.true)) c.in-Err.ensures.disk)

pub returns-in-Err-clause-cause : goal.returns-in-Err-clause-cause
returns-in-Err-clause-cause g c =
    λ takes takes_now.
    subst (λ (o : ShellOutcome). HasSessionCause (g.D.Disk.faults c.args.disk.now) (g.D.Disk.faults c.run_and_put.new.disk) (g.D.Disk.write_faults c.args.disk.now)
    (g.D.Disk.write_faults c.run_and_put.new.disk) takes takes_now (g.O.Sink.faults c.args.out.now) (g.O.Sink.faults c.run_and_put.new.out) o) (sym c.behind.ensures)
    (cause_behind _ _ _ _ _ _ takes takes_now _ _ _ c.in-Err.end c.loop-finished.finished c.loop-finished.invariant.counts.reads c.loop-finished.invariant.counts.writes
    c.loop-finished.invariant.counts.puts c.in-Err.ensures.cause)

pub loop-finished-preserved : goal.loop-finished-preserved
loop-finished-preserved g c =
    record {
      at =
          λ image told.
          let v = volume_of c.args.geometry.now in
          let leave = c.args.leave in
          let lines = c.args.lines.now in
          let i = c.loop-finished.finished in
          let s = session_of c.loop-finished.cursor in
          let r = shelled v leave (take i lines) image in
          let at = c.loop-finished.invariant.at image told in
          let same = line_is lines i c.word_at-line.result.now c.word_at-line.ensures c.loop-finished-test.true in
          stepped v leave lines image i c.word_at-line.result.now [] s (g.D.Disk.holds c.loop-finished.disk) (g.D.Disk.writes c.args.disk.now) (g.D.Disk.writes c.loop-finished.disk) c.in-Ok.verdict (session_of c.run_and_put.new.cursor) (g.D.Disk.holds c.run_and_put.new.disk) (g.D.Disk.writes c.run_and_put.new.disk)
          c.loop-finished-test.true same at (c.in-Ok.ensures.image r.image at.image_is) (sym c.is_quit.ensures ∙ c.if-is_quit.false);
      text =
          λ image told before put.
          let v = volume_of c.args.geometry.now in
          let leave = c.args.leave in
          let lines = c.args.lines.now in
          let i = c.loop-finished.finished in
          let s = session_of c.loop-finished.cursor in
          let r = shelled v leave (take i lines) image in
          let at = c.loop-finished.invariant.at image told in
          let same = line_is lines i c.word_at-line.result.now c.word_at-line.ensures c.loop-finished-test.true in
          text_stepped v leave lines image i c.word_at-line.result.now [] s (g.D.Disk.holds c.loop-finished.disk) (g.D.Disk.writes c.args.disk.now) (g.D.Disk.writes c.loop-finished.disk) before (g.O.Sink.took c.run_and_put.new.out)
          c.loop-finished-test.true same at
          (c.in-Ok.ensures.text r.image at.image_is (before ++ r.text) (c.loop-finished.invariant.text image told before put));
      passed =
          λ image told.
          let v = volume_of c.args.geometry.now in
          let leave = c.args.leave in
          let lines = c.args.lines.now in
          let i = c.loop-finished.finished in
          let s = session_of c.loop-finished.cursor in
          let r = shelled v leave (take i lines) image in
          let at = c.loop-finished.invariant.at image told in
          let same = line_is lines i c.word_at-line.result.now c.word_at-line.ensures c.loop-finished-test.true in
          passed_more g.D.Disk.size g.D.Disk.holds g.D.Disk.faults g.D.Disk.write_faults g.D.Disk.reads g.D.Disk.writes g.D.Disk.tells_stops g.D.Disk.moment g.D.Disk.may_leave g.D.Disk.left_since v leave lines image (may_write leave) i _ c.args.disk.now c.loop-finished.disk c.run_and_put.new.disk
          c.loop-finished.invariant.run (c.loop-finished.invariant.passed image told) (c.in-Ok.ensures.passes r.image at.image_is)
          (next_image v leave lines image i c.word_at-line.result.now [] s (g.D.Disk.holds c.loop-finished.disk) (g.D.Disk.writes c.args.disk.now) (g.D.Disk.writes c.loop-finished.disk) c.loop-finished-test.true same at);
      silent = λ none. absurd (omega (arith, none));
      appends =
          λ before put.
          let so_far = c.loop-finished.invariant.appends before put in
          let more = c.in-Ok.ensures.appends (before ++ so_far.0) so_far.1 in
          (so_far.0 ++ more.0, more.1 ∙ ap (λ (t : List ℕ). Some t) (append_assoc before so_far.0 more.0));
      within = c.run_and_put.ensures.within;
      run = run_more g.D.Disk.size g.D.Disk.holds g.D.Disk.faults g.D.Disk.write_faults g.D.Disk.reads g.D.Disk.writes g.D.Disk.tells_stops g.D.Disk.moment g.D.Disk.may_leave g.D.Disk.left_since (may_write c.args.leave) _ _ _ _ c.loop-finished.invariant.run c.in-Ok.ensures.disk;
      quits =
          let same = line_is c.args.lines.now c.loop-finished.finished c.word_at-line.result.now c.word_at-line.ensures c.loop-finished-test.true in
          quit_next c.args.lines.now c.loop-finished.finished [] c.loop-finished-test.true
          (ap (λ (line : List ℕ). is_quit_words (line_parts Blanks line)) (sym same)
          ∙ no_quit (line_parts Blanks c.word_at-line.result.now) (is_quit c.in-Ok.verdict) c.in-Ok.ensures.quits (sym c.is_quit.ensures ∙ c.if-is_quit.false))
          ∙ c.loop-finished.invariant.quits;
      counts =
          record {
            reads = omega (arith, c.loop-finished.invariant.counts.reads, c.run_and_put.ensures.counts.reads);
            writes = omega (arith, c.loop-finished.invariant.counts.writes, c.run_and_put.ensures.counts.writes);
            puts = omega (arith, c.loop-finished.invariant.counts.puts, c.run_and_put.ensures.counts.puts);
          };
    }

pub returns-then-is_quit-clause-stops : goal.returns-then-is_quit-clause-stops
returns-then-is_quit-clause-stops g c =
    λ image told.
    let v = volume_of c.args.geometry.now in
    let leave = c.args.leave in
    let lines = c.args.lines.now in
    let i = c.loop-finished.finished in
    let s = session_of c.loop-finished.cursor in
    let r = shelled v leave (take i lines) image in
    let at = c.loop-finished.invariant.at image told in
    let same = line_is lines i c.word_at-line.result.now c.word_at-line.ensures c.loop-finished-test.true in
    passed_more g.D.Disk.size g.D.Disk.holds g.D.Disk.faults g.D.Disk.write_faults g.D.Disk.reads g.D.Disk.writes g.D.Disk.tells_stops g.D.Disk.moment g.D.Disk.may_leave g.D.Disk.left_since v leave lines image (may_write leave) i _ c.args.disk.now c.loop-finished.disk c.run_and_put.new.disk
    c.loop-finished.invariant.run (c.loop-finished.invariant.passed image told) (c.in-Ok.ensures.passes r.image at.image_is)
    (next_image v leave lines image i c.word_at-line.result.now [] s (g.D.Disk.holds c.loop-finished.disk) (g.D.Disk.writes c.args.disk.now) (g.D.Disk.writes c.loop-finished.disk) c.loop-finished-test.true same at)

pub returns-in-Err-clause-stops : goal.returns-in-Err-clause-stops
returns-in-Err-clause-stops g c =
    λ image told.
    let v = volume_of c.args.geometry.now in
    let leave = c.args.leave in
    let lines = c.args.lines.now in
    let i = c.loop-finished.finished in
    let s = session_of c.loop-finished.cursor in
    let r = shelled v leave (take i lines) image in
    let at = c.loop-finished.invariant.at image told in
    let same = line_is lines i c.word_at-line.result.now c.word_at-line.ensures c.loop-finished-test.true in
    passed_more g.D.Disk.size g.D.Disk.holds g.D.Disk.faults g.D.Disk.write_faults g.D.Disk.reads g.D.Disk.writes g.D.Disk.tells_stops g.D.Disk.moment g.D.Disk.may_leave g.D.Disk.left_since v leave lines image (may_write leave) i _ c.args.disk.now c.loop-finished.disk c.run_and_put.new.disk
    c.loop-finished.invariant.run (c.loop-finished.invariant.passed image told) (c.in-Err.ensures.passes r.image at.image_is)
    (next_image v leave lines image i c.word_at-line.result.now [] s (g.D.Disk.holds c.loop-finished.disk) (g.D.Disk.writes c.args.disk.now) (g.D.Disk.writes c.loop-finished.disk) c.loop-finished-test.true same at)

pub returns-then-is_quit-clause-ran : goal.returns-then-is_quit-clause-ran
returns-then-is_quit-clause-ran g c = tt

pub returns-clause-ran : goal.returns-clause-ran
returns-clause-ran g c = tt

pub returns-then-is_quit-clause-cause : goal.returns-then-is_quit-clause-cause
returns-then-is_quit-clause-cause g c = λ takes takes_now. tt

pub returns-clause-cause : goal.returns-clause-cause
returns-clause-cause g c = λ takes takes_now. tt

pub returns-clause-appends : goal.returns-clause-appends
returns-clause-appends g c = c.loop-finished.invariant.appends

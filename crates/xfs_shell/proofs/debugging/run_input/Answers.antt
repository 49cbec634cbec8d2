use Rattle.xfs_shell.proofs.Passing.{passed_none}
use Rattle.xfs_disk.proofs.Reading.{reads_none}
use Rattle.std.proofs.lemmas.List.{append-nil}
use Rattle.std.proofs.Common.{◌≡◌, ◌∙◌, ap, subst, ℕ, List, [], Some, refl, sym, arith}
use Rattle.xfs_geom.specs.Volumes.{volume_of}
use Rattle.xfs_shell.specs.LineParts.{line_parts}
use Rattle.xfs_shell.specs.Running.{may_write, until_quit}
use Rattle.xfs_shell.specs.Shells.{LeavesDisk, Prints, input_lines, most_of}
use Rattle.xfs_shell.specs.declared.line_parts.Cut.TheVariants.{LineFeeds}
use Rattle.xfs_shell.specs.Stops.{HasPassed}
use Rattle.xfs_shell.proofs.Asked.{input_lines_ran, past_lines, read_lines}
use Rattle.xfs_shell.proofs.Quitting.{most_read}
use Rattle.xfs_shell.proofs.Stepping.{over_more, over_early}
use Rattle.xfs_shell.specs.declared.outcomes.ShellOutcome.TheVariants as out
use Rattle.xfs_shell.proofs.debugging.run_input.Goals as goal

pub returns-clause-past : goal.returns-clause-past
returns-clause-past g c = past_lines c.run_lines.result c.run_lines.ensures.ran

pub returns-clause-input : goal.returns-clause-input
returns-clause-input g c = input_lines_ran (g.S.Source.left c.args.input.now) c.run_lines.result c.run_lines.ensures.ran (λ left told. (c.in-Ok.ensures.bytes left told).1)

pub returns-clause-image : goal.returns-clause-image
returns-clause-image g c =
    λ image told lines told_lines.
    let ran : c.as_slice-2.result.now ≡ line_parts LineFeeds c.in-Ok.bytes.items =
    c.as_slice-2.ensures.value ∙ c.in-Ok-parts.ensures ∙ ap (λ (bytes : List ℕ). line_parts LineFeeds bytes) c.as_slice.ensures.value
    in
    subst
    (λ (ls : List (List ℕ)).
    LeavesDisk (volume_of c.args.geometry.now) c.args.leave ls image (g.D.Disk.holds c.run_lines.new.disk) (g.D.Disk.writes c.args.disk.now)
    (g.D.Disk.writes c.run_lines.new.disk) c.run_lines.result)
    (read_lines (g.S.Source.left c.args.input.now) c.in-Ok.bytes.items c.as_slice-2.result.now lines ran (λ left told. (c.in-Ok.ensures.bytes left told).0) told_lines)
    (c.run_lines.ensures.image image told)

pub returns-clause-text : goal.returns-clause-text
returns-clause-text g c =
    λ image told lines told_lines before put.
    let ran : c.as_slice-2.result.now ≡ line_parts LineFeeds c.in-Ok.bytes.items =
    c.as_slice-2.ensures.value ∙ c.in-Ok-parts.ensures ∙ ap (λ (bytes : List ℕ). line_parts LineFeeds bytes) c.as_slice.ensures.value
    in
    subst
    (λ (ls : List (List ℕ)).
    Prints (volume_of c.args.geometry.now) c.args.leave ls image before (g.O.Sink.took c.run_lines.new.out) c.run_lines.result)
    (read_lines (g.S.Source.left c.args.input.now) c.in-Ok.bytes.items c.as_slice-2.result.now lines ran (λ left told. (c.in-Ok.ensures.bytes left told).0) told_lines)
    (c.run_lines.ensures.text image told before put)

pub returns-clause-disk : goal.returns-clause-disk
returns-clause-disk g c =
    let ran : c.as_slice-2.result.now ≡ line_parts LineFeeds c.in-Ok.bytes.items =
    c.as_slice-2.ensures.value ∙ c.in-Ok-parts.ensures ∙ ap (λ (bytes : List ℕ). line_parts LineFeeds bytes) c.as_slice.ensures.value
    in
    over_more g.D.Disk.size g.D.Disk.holds g.D.Disk.faults g.D.Disk.write_faults g.D.Disk.reads g.D.Disk.writes g.D.Disk.tells_stops g.D.Disk.moment g.D.Disk.may_leave
    g.D.Disk.left_since (may_write c.args.leave) (until_quit c.as_slice-2.result.now) (most_of (input_lines (g.S.Source.left c.args.input.now))) c.run_lines.result
    c.args.disk.now c.run_lines.new.disk
    (most_read (g.S.Source.left c.args.input.now) c.in-Ok.bytes.items c.as_slice-2.result.now ran c.in-Ok.ensures.short (λ left told. (c.in-Ok.ensures.bytes left told).0))
    c.run_lines.ensures.disk

pub returns-clause-cause : goal.returns-clause-cause
returns-clause-cause g c = c.run_lines.ensures.cause (g.S.Source.faults c.args.input.now) (g.S.Source.faults c.read_input.new.input)

pub returns-clause-stops : goal.returns-clause-stops
returns-clause-stops g c =
    λ image told lines told_lines.
    let ran : c.as_slice-2.result.now ≡ line_parts LineFeeds c.in-Ok.bytes.items =
    c.as_slice-2.ensures.value ∙ c.in-Ok-parts.ensures ∙ ap (λ (bytes : List ℕ). line_parts LineFeeds bytes) c.as_slice.ensures.value
    in
    subst
    (λ (ls : List (List ℕ)). HasPassed g.D.Disk.holds g.D.Disk.tells_stops g.D.Disk.moment g.D.Disk.may_leave g.D.Disk.left_since (volume_of c.args.geometry.now) c.args.leave ls image c.args.disk.now c.run_lines.new.disk)
    (read_lines (g.S.Source.left c.args.input.now) c.in-Ok.bytes.items c.as_slice-2.result.now lines ran (λ left told. (c.in-Ok.ensures.bytes left told).0) told_lines)
    (c.run_lines.ensures.stops image told)

pub returns-in-Err-Failed-clause-past : goal.returns-in-Err-Failed-clause-past
returns-in-Err-Failed-clause-past g c = tt

pub returns-in-Err-Failed-clause-input : goal.returns-in-Err-Failed-clause-input
returns-in-Err-Failed-clause-input g c = tt

pub returns-in-Err-Failed-clause-image : goal.returns-in-Err-Failed-clause-image
returns-in-Err-Failed-clause-image g c = λ image told lines told_lines. record { image_is = told; writes_are = refl; finished_are = tt }

pub returns-in-Err-Failed-clause-text : goal.returns-in-Err-Failed-clause-text
returns-in-Err-Failed-clause-text g c = λ image told lines told_lines before put. put

pub returns-in-Err-Failed-clause-stops : goal.returns-in-Err-Failed-clause-stops
returns-in-Err-Failed-clause-stops g c = λ image told lines told_lines.
    passed_none g.D.Disk.size g.D.Disk.holds g.D.Disk.faults g.D.Disk.write_faults g.D.Disk.reads g.D.Disk.writes g.D.Disk.tells_stops g.D.Disk.moment g.D.Disk.may_leave g.D.Disk.left_since (volume_of c.args.geometry.now) c.args.leave lines image c.args.disk.now

pub returns-in-Err-Failed-clause-silent : goal.returns-in-Err-Failed-clause-silent
returns-in-Err-Failed-clause-silent g c = λ early. refl

pub returns-in-Err-Failed-clause-appends : goal.returns-in-Err-Failed-clause-appends
returns-in-Err-Failed-clause-appends g c = λ before put. ([], put ∙ ap (λ (t : List ℕ). Some t) (sym (append-nil before)))

pub returns-in-Err-Failed-clause-disk : goal.returns-in-Err-Failed-clause-disk
returns-in-Err-Failed-clause-disk g c =
    let most = most_of (input_lines (g.S.Source.left c.args.input.now)) in
    over_early g.D.Disk.size g.D.Disk.holds g.D.Disk.faults g.D.Disk.write_faults g.D.Disk.reads g.D.Disk.writes g.D.Disk.tells_stops g.D.Disk.moment g.D.Disk.may_leave g.D.Disk.left_since (may_write c.args.leave) most most out.InputFault c.args.disk.now c.args.disk.now refl refl
    (reads_none g.D.Disk.size g.D.Disk.holds g.D.Disk.write_faults g.D.Disk.writes g.D.Disk.tells_stops g.D.Disk.moment g.D.Disk.may_leave g.D.Disk.left_since c.args.disk.now) (omega arith)

pub returns-in-Err-Failed-clause-cause : goal.returns-in-Err-Failed-clause-cause
returns-in-Err-Failed-clause-cause g c = rw c.in-Err-Failed.field-0-is at c.in-Err-Failed.ensures.cause

pub returns-in-Err-Long-clause-past : goal.returns-in-Err-Long-clause-past
returns-in-Err-Long-clause-past g c = tt

pub returns-in-Err-Long-clause-input : goal.returns-in-Err-Long-clause-input
returns-in-Err-Long-clause-input g c = λ left told. c.in-Err-Long.ensures.long left told c.in-Err-Long.field-0-is

pub returns-in-Err-Long-clause-image : goal.returns-in-Err-Long-clause-image
returns-in-Err-Long-clause-image g c = λ image told lines told_lines. record { image_is = told; writes_are = refl; finished_are = tt }

pub returns-in-Err-Long-clause-text : goal.returns-in-Err-Long-clause-text
returns-in-Err-Long-clause-text g c = λ image told lines told_lines before put. put

pub returns-in-Err-Long-clause-stops : goal.returns-in-Err-Long-clause-stops
returns-in-Err-Long-clause-stops g c = λ image told lines told_lines.
    passed_none g.D.Disk.size g.D.Disk.holds g.D.Disk.faults g.D.Disk.write_faults g.D.Disk.reads g.D.Disk.writes g.D.Disk.tells_stops g.D.Disk.moment g.D.Disk.may_leave g.D.Disk.left_since (volume_of c.args.geometry.now) c.args.leave lines image c.args.disk.now

pub returns-in-Err-Long-clause-silent : goal.returns-in-Err-Long-clause-silent
returns-in-Err-Long-clause-silent g c = λ early. refl

pub returns-in-Err-Long-clause-appends : goal.returns-in-Err-Long-clause-appends
returns-in-Err-Long-clause-appends g c = λ before put. ([], put ∙ ap (λ (t : List ℕ). Some t) (sym (append-nil before)))

pub returns-in-Err-Long-clause-disk : goal.returns-in-Err-Long-clause-disk
returns-in-Err-Long-clause-disk g c =
    let most = most_of (input_lines (g.S.Source.left c.args.input.now)) in
    over_early g.D.Disk.size g.D.Disk.holds g.D.Disk.faults g.D.Disk.write_faults g.D.Disk.reads g.D.Disk.writes g.D.Disk.tells_stops g.D.Disk.moment g.D.Disk.may_leave g.D.Disk.left_since (may_write c.args.leave) most most out.InputLong c.args.disk.now c.args.disk.now refl refl
    (reads_none g.D.Disk.size g.D.Disk.holds g.D.Disk.write_faults g.D.Disk.writes g.D.Disk.tells_stops g.D.Disk.moment g.D.Disk.may_leave g.D.Disk.left_since c.args.disk.now) (omega arith)

pub returns-in-Err-Long-clause-cause : goal.returns-in-Err-Long-clause-cause
returns-in-Err-Long-clause-cause g c = tt

pub returns-in-Err-NoMemory-clause-past : goal.returns-in-Err-NoMemory-clause-past
returns-in-Err-NoMemory-clause-past g c = tt

pub returns-in-Err-NoMemory-clause-input : goal.returns-in-Err-NoMemory-clause-input
returns-in-Err-NoMemory-clause-input g c = tt

pub returns-in-Err-NoMemory-clause-image : goal.returns-in-Err-NoMemory-clause-image
returns-in-Err-NoMemory-clause-image g c = λ image told lines told_lines. record { image_is = told; writes_are = refl; finished_are = (omega arith, refl) }

pub returns-in-Err-NoMemory-clause-text : goal.returns-in-Err-NoMemory-clause-text
returns-in-Err-NoMemory-clause-text g c = λ image told lines told_lines before put. put ∙ ap (λ (t : List ℕ). Some t) (sym (append-nil before))

pub returns-in-Err-NoMemory-clause-stops : goal.returns-in-Err-NoMemory-clause-stops
returns-in-Err-NoMemory-clause-stops g c = λ image told lines told_lines.
    passed_none g.D.Disk.size g.D.Disk.holds g.D.Disk.faults g.D.Disk.write_faults g.D.Disk.reads g.D.Disk.writes g.D.Disk.tells_stops g.D.Disk.moment g.D.Disk.may_leave g.D.Disk.left_since (volume_of c.args.geometry.now) c.args.leave lines image c.args.disk.now

pub returns-in-Err-NoMemory-clause-silent : goal.returns-in-Err-NoMemory-clause-silent
returns-in-Err-NoMemory-clause-silent g c = λ early. refl

pub returns-in-Err-NoMemory-clause-appends : goal.returns-in-Err-NoMemory-clause-appends
returns-in-Err-NoMemory-clause-appends g c = λ before put. ([], put ∙ ap (λ (t : List ℕ). Some t) (sym (append-nil before)))

pub returns-in-Err-NoMemory-clause-disk : goal.returns-in-Err-NoMemory-clause-disk
returns-in-Err-NoMemory-clause-disk g c =
    let most = most_of (input_lines (g.S.Source.left c.args.input.now)) in
    over_early g.D.Disk.size g.D.Disk.holds g.D.Disk.faults g.D.Disk.write_faults g.D.Disk.reads g.D.Disk.writes g.D.Disk.tells_stops g.D.Disk.moment g.D.Disk.may_leave g.D.Disk.left_since (may_write c.args.leave) most most (out.NoMemory 0) c.args.disk.now c.args.disk.now refl refl
    (reads_none g.D.Disk.size g.D.Disk.holds g.D.Disk.write_faults g.D.Disk.writes g.D.Disk.tells_stops g.D.Disk.moment g.D.Disk.may_leave g.D.Disk.left_since c.args.disk.now) (omega arith)

pub returns-in-Err-NoMemory-clause-cause : goal.returns-in-Err-NoMemory-clause-cause
returns-in-Err-NoMemory-clause-cause g c = tt

pub returns-in-Err-clause-past : goal.returns-in-Err-clause-past
returns-in-Err-clause-past g c = tt

pub returns-in-Err-clause-input : goal.returns-in-Err-clause-input
returns-in-Err-clause-input g c = tt

pub returns-in-Err-clause-image : goal.returns-in-Err-clause-image
returns-in-Err-clause-image g c = λ image told lines told_lines. record { image_is = told; writes_are = refl; finished_are = (omega arith, refl) }

pub returns-in-Err-clause-text : goal.returns-in-Err-clause-text
returns-in-Err-clause-text g c = λ image told lines told_lines before put. put ∙ ap (λ (t : List ℕ). Some t) (sym (append-nil before))

pub returns-in-Err-clause-stops : goal.returns-in-Err-clause-stops
returns-in-Err-clause-stops g c = λ image told lines told_lines.
    passed_none g.D.Disk.size g.D.Disk.holds g.D.Disk.faults g.D.Disk.write_faults g.D.Disk.reads g.D.Disk.writes g.D.Disk.tells_stops g.D.Disk.moment g.D.Disk.may_leave g.D.Disk.left_since (volume_of c.args.geometry.now) c.args.leave lines image c.args.disk.now

pub returns-in-Err-clause-silent : goal.returns-in-Err-clause-silent
returns-in-Err-clause-silent g c = λ early. refl

pub returns-in-Err-clause-appends : goal.returns-in-Err-clause-appends
returns-in-Err-clause-appends g c = λ before put. ([], put ∙ ap (λ (t : List ℕ). Some t) (sym (append-nil before)))

pub returns-in-Err-clause-disk : goal.returns-in-Err-clause-disk
returns-in-Err-clause-disk g c =
    let most = most_of (input_lines (g.S.Source.left c.args.input.now)) in
    over_early g.D.Disk.size g.D.Disk.holds g.D.Disk.faults g.D.Disk.write_faults g.D.Disk.reads g.D.Disk.writes g.D.Disk.tells_stops g.D.Disk.moment g.D.Disk.may_leave g.D.Disk.left_since (may_write c.args.leave) most most (out.NoMemory 0) c.args.disk.now c.args.disk.now refl refl
    (reads_none g.D.Disk.size g.D.Disk.holds g.D.Disk.write_faults g.D.Disk.writes g.D.Disk.tells_stops g.D.Disk.moment g.D.Disk.may_leave g.D.Disk.left_since c.args.disk.now) (omega arith)

pub returns-in-Err-clause-cause : goal.returns-in-Err-clause-cause
returns-in-Err-clause-cause g c = tt

pub run_lines-requires : goal.run_lines-requires
run_lines-requires g c = record { inside = c.requires.inside }

pub returns-clause-silent : goal.returns-clause-silent
returns-clause-silent g c = c.run_lines.ensures.silent

pub returns-clause-appends : goal.returns-clause-appends
returns-clause-appends g c = c.run_lines.ensures.appends

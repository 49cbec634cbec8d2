use Rattle.xfs_shell.proofs.Settling.{still_passes}
use Rattle.xfs_disk.proofs.Reading.{reads_none}
use Rattle.std.specs.Prelude.{IfSome}
use Rattle.std.proofs.Common.{◌≡◌, ◌∙◌, ap, subst, sym, ℕ, List, length, drop, Option, arith, inl}
use Rattle.xfs_geom.specs.Volumes.{volume_of}
use Rattle.xfs_commands.specs.Commands.{Session, session_of, IsSectorPlace}
use Rattle.xfs_shell.specs.Running.{attempts, block_at_place, image_after, is_quit_words, pushes_in, runs_first}
use Rattle.xfs_commands.specs.Cursors.{pushed, settled_session}
use Rattle.xfs_shell.specs.Sessions.{IsRunCommand, LeavesAtStop}
use Rattle.xfs_objects.specs.declared.objects.ObjectPlace.{ObjectPlace}
use Rattle.xfs_disk.specs.Blocks.{Image}
use Rattle.xfs_shell.specs.Stops.{Passes}
use Rattle.xfs_shell.proofs.Pushing.{behind_puts, behind_ran, behind_stays}
use Rattle.xfs_shell.proofs.Quitting.{quit_no_push}
use Rattle.xfs_shell.proofs.session.run_behind.Goals as goal

pub returns-clause-outcome : goal.returns-clause-outcome
returns-clause-outcome g c =
    λ image told.
    let v = volume_of c.args.geometry.now in
    let words = c.args.words.now in
    let s = session_of c.args.cursor.now in
    let t = session_of c.save.new.self in
    let now = session_of c.run_command.new.cursor in
    let rest : c.split_at.result.1.now ≡ drop (pushes_in words) words =
    c.split_at.ensures.back ∙ ap (λ (n : ℕ). drop n words) c.count_pushes-count.ensures.value
    in
    let pushed_is : t ≡ pushed (pushes_in words) c.args.place s =
    c.in-Ok.ensures.session ∙ ap (λ (n : ℕ). pushed n c.args.place s) c.count_pushes-count.ensures.value
    in
    let run =
    subst
    (λ (ws : List (List ℕ)).
    IsRunCommand (runs_first v c.args.leave ws (block_at_place image t.at) t) image c.in-Ok-run_command.verdict c.args.text.now.items
    c.run_command.new.text.items now (g.D.Disk.holds c.run_command.new.disk) (g.D.Disk.writes c.args.disk.now) (g.D.Disk.writes c.run_command.new.disk))
    rest
    (c.in-Ok-run_command.ensures.outcome image told)
    in
    let kept : length c.as_slice-kept.result.now ≡ length s.stack = ap (λ (stack : List ObjectPlace). length stack) c.as_slice-kept.ensures.value in
    let settled : session_of c.drop_refused.new.self ≡ settled_session c.in-Ok-run_command.verdict (length s.stack) now =
    c.drop_refused.ensures.session ∙ ap (λ (n : ℕ). settled_session c.in-Ok-run_command.verdict n now) kept
    in
    subst
    (λ (u : Session).
    IsRunCommand (attempts v c.args.leave words (block_at_place image s.at) s) image c.in-Ok-run_command.verdict c.args.text.now.items
    c.run_command.new.text.items u (g.D.Disk.holds c.run_command.new.disk) (g.D.Disk.writes c.args.disk.now) (g.D.Disk.writes c.run_command.new.disk))
    (sym settled)
    (behind_ran v c.args.leave words image s t now c.args.place c.in-Ok-run_command.verdict c.args.text.now.items c.run_command.new.text.items
    (g.D.Disk.holds c.run_command.new.disk) (g.D.Disk.writes c.args.disk.now) (g.D.Disk.writes c.run_command.new.disk) c.requires.place pushed_is run)

pub returns-in-Err-run_command-clause-outcome : goal.returns-in-Err-run_command-clause-outcome
returns-in-Err-run_command-clause-outcome g c =
    λ image told.
    let v = volume_of c.args.geometry.now in
    let words = c.args.words.now in
    let s = session_of c.args.cursor.now in
    let t = session_of c.save.new.self in
    let rest : c.split_at.result.1.now ≡ drop (pushes_in words) words =
    c.split_at.ensures.back ∙ ap (λ (n : ℕ). drop n words) c.count_pushes-count.ensures.value
    in
    let pushed_is : t ≡ pushed (pushes_in words) c.args.place s =
    c.in-Ok.ensures.session ∙ ap (λ (n : ℕ). pushed n c.args.place s) c.count_pushes-count.ensures.value
    in
    behind_stays v c.args.leave words image s t c.args.place c.in-Err-run_command.stop (g.D.Disk.holds c.run_command.new.disk) c.requires.place pushed_is
    (subst
    (λ (ws : List (List ℕ)).
    LeavesAtStop (runs_first v c.args.leave ws (block_at_place image t.at) t) image (g.D.Disk.holds c.run_command.new.disk) c.in-Err-run_command.stop)
    rest
    (c.in-Err-run_command.ensures.outcome image told))

pub returns-clause-quits : goal.returns-clause-quits
returns-clause-quits g c =
    λ is.
    c.in-Ok-run_command.ensures.quits
    (ap (λ (ws : List (List ℕ)). is_quit_words ws)
    (c.split_at.ensures.back ∙ ap (λ (n : ℕ). drop n c.args.words.now) (c.count_pushes-count.ensures.value ∙ quit_no_push c.args.words.now is))
    ∙ is)

pub returns-clause-passes : goal.returns-clause-passes
returns-clause-passes g c =
    λ image told.
    let v = volume_of c.args.geometry.now in
    let words = c.args.words.now in
    let s = session_of c.args.cursor.now in
    let t = session_of c.save.new.self in
    let rest : c.split_at.result.1.now ≡ drop (pushes_in words) words =
    c.split_at.ensures.back ∙ ap (λ (n : ℕ). drop n words) c.count_pushes-count.ensures.value
    in
    let pushed_is : t ≡ pushed (pushes_in words) c.args.place s =
    c.in-Ok.ensures.session ∙ ap (λ (n : ℕ). pushed n c.args.place s) c.count_pushes-count.ensures.value
    in
    let due =
    ap (λ (ws : List (List ℕ)). image_after (runs_first v c.args.leave ws (block_at_place image t.at) t).put image) rest
    ∙ behind_puts v c.args.leave words image s t c.args.place c.requires.place pushed_is
    in
    subst (λ (next : Image). Passes g.D.Disk.holds g.D.Disk.tells_stops g.D.Disk.moment g.D.Disk.may_leave g.D.Disk.left_since image next c.args.disk.now c.run_command.new.disk) due
    (c.in-Ok-run_command.ensures.passes image told)

pub returns-in-Err-run_command-clause-passes : goal.returns-in-Err-run_command-clause-passes
returns-in-Err-run_command-clause-passes g c =
    λ image told.
    let v = volume_of c.args.geometry.now in
    let words = c.args.words.now in
    let s = session_of c.args.cursor.now in
    let t = session_of c.save.new.self in
    let rest : c.split_at.result.1.now ≡ drop (pushes_in words) words =
    c.split_at.ensures.back ∙ ap (λ (n : ℕ). drop n words) c.count_pushes-count.ensures.value
    in
    let pushed_is : t ≡ pushed (pushes_in words) c.args.place s =
    c.in-Ok.ensures.session ∙ ap (λ (n : ℕ). pushed n c.args.place s) c.count_pushes-count.ensures.value
    in
    let due =
    ap (λ (ws : List (List ℕ)). image_after (runs_first v c.args.leave ws (block_at_place image t.at) t).put image) rest
    ∙ behind_puts v c.args.leave words image s t c.args.place c.requires.place pushed_is
    in
    subst (λ (next : Image). Passes g.D.Disk.holds g.D.Disk.tells_stops g.D.Disk.moment g.D.Disk.may_leave g.D.Disk.left_since image next c.args.disk.now c.run_command.new.disk) due
    (c.in-Err-run_command.ensures.passes image told)

pub returns-in-Err-clause-within : goal.returns-in-Err-clause-within
returns-in-Err-clause-within g c =
    let dblocks = c.args.geometry.now.dblocks in
    let here = subst (λ (o : Option ObjectPlace). IfSome o (IsSectorPlace dblocks)) c.requires.place c.requires.within.at_is in
    c.in-Err.ensures.within dblocks c.requires.within here

pub returns-in-Err-clause-outcome : goal.returns-in-Err-clause-outcome
returns-in-Err-clause-outcome g c = λ image told. told

pub returns-in-Err-clause-passes : goal.returns-in-Err-clause-passes
returns-in-Err-clause-passes g c = λ image told. still_passes g.D.Disk.holds g.D.Disk.tells_stops g.D.Disk.moment g.D.Disk.may_leave g.D.Disk.left_since image _ c.args.disk.now

pub returns-in-Err-clause-disk : goal.returns-in-Err-clause-disk
returns-in-Err-clause-disk g c =
    inl (record {
      cause = (omega arith, omega arith);
      no_write_fault = tt;
      one_read = omega arith;
      only_reads = reads_none g.D.Disk.size g.D.Disk.holds g.D.Disk.write_faults g.D.Disk.writes g.D.Disk.tells_stops g.D.Disk.moment g.D.Disk.may_leave g.D.Disk.left_since c.args.disk.now;
    })

pub returns-in-Err-clause-quits : goal.returns-in-Err-clause-quits
returns-in-Err-clause-quits g c = λ is. tt

pub run_command-requires-clause-inside : goal.run_command-requires-clause-inside
run_command-requires-clause-inside g c = c.requires.inside

pub run_command-requires-clause-within : goal.run_command-requires-clause-within
run_command-requires-clause-within g c =
    let dblocks = c.args.geometry.now.dblocks in
    let here = subst (λ (o : Option ObjectPlace). IfSome o (IsSectorPlace dblocks)) c.requires.place c.requires.within.at_is in
    c.in-Ok.ensures.within dblocks c.requires.within here

pub returns-in-Err-run_command-clause-within : goal.returns-in-Err-run_command-clause-within
returns-in-Err-run_command-clause-within g c = c.run_command.ensures.within

pub returns-in-Err-run_command-clause-disk : goal.returns-in-Err-run_command-clause-disk
returns-in-Err-run_command-clause-disk g c = c.in-Err-run_command.ensures.disk

pub returns-in-Err-run_command-clause-quits : goal.returns-in-Err-run_command-clause-quits
returns-in-Err-run_command-clause-quits g c = λ is. tt

pub returns-clause-within : goal.returns-clause-within
returns-clause-within g c = c.drop_refused.ensures.within c.args.geometry.now.dblocks c.run_command.ensures.within

pub returns-clause-disk : goal.returns-clause-disk
returns-clause-disk g c = c.in-Ok-run_command.ensures.disk

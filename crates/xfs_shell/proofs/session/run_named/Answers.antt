use Rattle.std.proofs.Common.{◌∙◌, ◌≡◌, ◌++◌, IfOk, Option, Some, ap, codes, inl, length, subst, sym, true}
use Rattle.std.proofs.lemmas.Bool.{true≢false}
use Rattle.xfs_geom.specs.Volumes.{volume_of}
use Rattle.xfs_commands.specs.Commands.{Effect, session_of}
use Rattle.xfs_commands.specs.Cursors.{is_quit}
use Rattle.xfs_commands.specs.Verbs.{accepted}
use Rattle.xfs_commands.specs.declared.commands.Verb.{Verb}
use Rattle.xfs_shell.specs.Running.{block_at_place, image_after, is_quit_verb, runs, runs_named}
use Rattle.xfs_shell.specs.Stops.{Passes}
use Rattle.xfs_shell.proofs.Settling.{outcome_as, settled_refusal, still_passes}
use Rattle.xfs_shell.proofs.Stepping.{rested}
use Rattle.xfs_shell.proofs.session.run_named.Goals as goal

pub returns-in-Some-clause-outcome : goal.returns-in-Some-clause-outcome
returns-in-Some-clause-outcome g c =
    λ image told.
    outcome_as (runs_named (volume_of c.args.geometry.now) c.args.leave (accepted c.args.name.now (length c.args.arguments.now)) c.args.name.now c.args.arguments.now (block_at_place image c.args.cursor.now.at) (session_of c.args.cursor.now)) (runs (volume_of c.args.geometry.now) c.args.leave c.in-Some.verb c.args.name.now c.args.arguments.now (block_at_place image c.args.cursor.now.at) (session_of c.args.cursor.now)) image c.args.text.now.items c.run_verb.new.text.items (session_of c.run_verb.new.cursor) (g.D.Disk.holds c.run_verb.new.disk)
    (g.D.Disk.writes c.args.disk.now) (g.D.Disk.writes c.run_verb.new.disk) c.run_verb.result
    (ap (λ (o : Option Verb). runs_named (volume_of c.args.geometry.now) c.args.leave o c.args.name.now c.args.arguments.now (block_at_place image c.args.cursor.now.at) (session_of c.args.cursor.now)) c.in-Some.ensures)
    (c.run_verb.ensures.outcome image told)

pub returns-in-Some-clause-passes : goal.returns-in-Some-clause-passes
returns-in-Some-clause-passes g c =
    λ image told.
    subst (λ (e : Effect). Passes g.D.Disk.holds g.D.Disk.tells_stops g.D.Disk.moment g.D.Disk.may_leave g.D.Disk.left_since image (image_after e.put image) c.args.disk.now c.run_verb.new.disk)
    (ap (λ (o : Option Verb). runs_named (volume_of c.args.geometry.now) c.args.leave o c.args.name.now c.args.arguments.now (block_at_place image c.args.cursor.now.at) (session_of c.args.cursor.now)) c.in-Some.ensures)
    (c.run_verb.ensures.passes image told)

pub returns-in-Some-clause-disk : goal.returns-in-Some-clause-disk
returns-in-Some-clause-disk g c =
    c.run_verb.ensures.disk

pub returns-in-Some-clause-quits : goal.returns-in-Some-clause-quits
returns-in-Some-clause-quits g c =
    subst (λ (o : Option Verb). is_quit_verb o ≡ true → IfOk c.run_verb.result (λ verdict. is_quit verdict ≡ true)) c.in-Some.ensures
    c.run_verb.ensures.quits

pub returns-in-None-clause-outcome : goal.returns-in-None-clause-outcome
returns-in-None-clause-outcome g c =
    λ image told.
    settled_refusal (runs_named (volume_of c.args.geometry.now) c.args.leave (accepted c.args.name.now (length c.args.arguments.now)) c.args.name.now c.args.arguments.now (block_at_place image c.args.cursor.now.at) (session_of c.args.cursor.now)) (codes "bad command: " ++ (c.args.name.now ++ codes "\n")) image c.args.text.now.items c.refuse_word.new.text.items (session_of c.args.cursor.now)
    (g.D.Disk.holds c.args.disk.now) (g.D.Disk.writes c.args.disk.now) c.refuse_word.result c.or_stop.result
    (ap (λ (o : Option Verb). runs_named (volume_of c.args.geometry.now) c.args.leave o c.args.name.now c.args.arguments.now (block_at_place image c.args.cursor.now.at) (session_of c.args.cursor.now)) c.in-None.ensures) c.or_stop.ensures c.refuse_word.ensures.verdict c.refuse_word.ensures.text told

pub returns-in-None-clause-passes : goal.returns-in-None-clause-passes
returns-in-None-clause-passes g c =
    λ image told. still_passes g.D.Disk.holds g.D.Disk.tells_stops g.D.Disk.moment g.D.Disk.may_leave g.D.Disk.left_since image _ c.args.disk.now

pub returns-in-None-clause-disk : goal.returns-in-None-clause-disk
returns-in-None-clause-disk g c =
    inl (rested g.D.Disk.size g.D.Disk.holds g.D.Disk.faults g.D.Disk.write_faults g.D.Disk.reads g.D.Disk.writes g.D.Disk.tells_stops g.D.Disk.moment
    g.D.Disk.may_leave g.D.Disk.left_since c.args.disk.now c.refuse_word.result c.or_stop.result c.or_stop.ensures)

pub returns-in-None-clause-quits : goal.returns-in-None-clause-quits
returns-in-None-clause-quits g c =
    λ is. absurd (true≢false (sym is ∙ ap (λ (o : Option Verb). is_quit_verb o) (sym c.in-None.ensures)))

use Rattle.std.proofs.Common.{◌∙◌, Bool, ap, codes, if◌then◌else◌, inl, subst}
use Rattle.std.proofs.lemmas.Bool.{true≢false}
use Rattle.xfs_geom.specs.Volumes.{volume_of}
use Rattle.xfs_commands.specs.Commands.{Effect, no_address, session_of}
use Rattle.xfs_shell.specs.Running.{block_at_place, image_after, runs_first, runs_placeless}
use Rattle.xfs_shell.specs.Stops.{Passes}
use Rattle.xfs_shell.proofs.Quitting.{quit_not_push}
use Rattle.xfs_shell.proofs.Settling.{outcome_as, settled_refusal, still_passes}
use Rattle.xfs_shell.proofs.Stepping.{rested}
use Rattle.xfs_shell.proofs.session.run_placeless.Goals as goal

pub returns-then-is_push-clause-outcome : goal.returns-then-is_push-clause-outcome
returns-then-is_push-clause-outcome g c =
    λ image told.
    settled_refusal (runs_placeless (volume_of c.args.geometry.now) c.args.leave c.args.words.now (block_at_place image c.args.cursor.now.at) (session_of c.args.cursor.now)) (codes "no address\n") image c.args.text.now.items c.refuse.new.text.items (session_of c.args.cursor.now) (g.D.Disk.holds c.args.disk.now) (g.D.Disk.writes c.args.disk.now)
    c.refuse.result c.or_stop.result (ap (λ (b : Bool). if b then no_address (session_of c.args.cursor.now) else runs_first (volume_of c.args.geometry.now) c.args.leave c.args.words.now (block_at_place image c.args.cursor.now.at) (session_of c.args.cursor.now)) c.if-is_push.ensures)
    c.or_stop.ensures c.refuse.ensures.verdict c.refuse.ensures.text told

pub returns-then-is_push-clause-passes : goal.returns-then-is_push-clause-passes
returns-then-is_push-clause-passes g c =
    λ image told. still_passes g.D.Disk.holds g.D.Disk.tells_stops g.D.Disk.moment g.D.Disk.may_leave g.D.Disk.left_since image _ c.args.disk.now

pub returns-then-is_push-clause-disk : goal.returns-then-is_push-clause-disk
returns-then-is_push-clause-disk g c =
    inl (rested g.D.Disk.size g.D.Disk.holds g.D.Disk.faults g.D.Disk.write_faults g.D.Disk.reads g.D.Disk.writes g.D.Disk.tells_stops g.D.Disk.moment
    g.D.Disk.may_leave g.D.Disk.left_since c.args.disk.now c.refuse.result c.or_stop.result c.or_stop.ensures)

pub returns-then-is_push-clause-quits : goal.returns-then-is_push-clause-quits
returns-then-is_push-clause-quits g c =
    λ is. absurd (true≢false (c.if-is_push.ensures ∙ quit_not_push c.args.words.now is))

pub returns-clause-outcome : goal.returns-clause-outcome
returns-clause-outcome g c =
    λ image told.
    outcome_as (runs_placeless (volume_of c.args.geometry.now) c.args.leave c.args.words.now (block_at_place image c.args.cursor.now.at) (session_of c.args.cursor.now)) (runs_first (volume_of c.args.geometry.now) c.args.leave c.args.words.now (block_at_place image c.args.cursor.now.at) (session_of c.args.cursor.now)) image c.args.text.now.items c.run_command.new.text.items (session_of c.run_command.new.cursor) (g.D.Disk.holds c.run_command.new.disk)
    (g.D.Disk.writes c.args.disk.now) (g.D.Disk.writes c.run_command.new.disk) c.run_command.result
    (ap (λ (b : Bool). if b then no_address (session_of c.args.cursor.now) else runs_first (volume_of c.args.geometry.now) c.args.leave c.args.words.now (block_at_place image c.args.cursor.now.at) (session_of c.args.cursor.now)) c.if-is_push.ensures)
    (c.run_command.ensures.outcome image told)

pub returns-clause-passes : goal.returns-clause-passes
returns-clause-passes g c =
    λ image told.
    subst (λ (e : Effect). Passes g.D.Disk.holds g.D.Disk.tells_stops g.D.Disk.moment g.D.Disk.may_leave g.D.Disk.left_since image (image_after e.put image) c.args.disk.now c.run_command.new.disk)
    (ap (λ (b : Bool). if b then no_address (session_of c.args.cursor.now) else runs_first (volume_of c.args.geometry.now) c.args.leave c.args.words.now (block_at_place image c.args.cursor.now.at) (session_of c.args.cursor.now)) c.if-is_push.ensures)
    (c.run_command.ensures.passes image told)

pub returns-clause-disk : goal.returns-clause-disk
returns-clause-disk g c =
    c.run_command.ensures.disk

pub returns-clause-quits : goal.returns-clause-quits
returns-clause-quits g c =
    c.run_command.ensures.quits

use Rattle.std.proofs.Common.{◌∙◌, List, None, Some, ap, inl, refl, subst, sym, ℕ}
use Rattle.std.proofs.lemmas.Bool.{true≢false}
use Rattle.xfs_geom.specs.Volumes.{volume_of}
use Rattle.xfs_commands.specs.Commands.{Effect, session_of}
use Rattle.xfs_commands.specs.Verbs.{runs_alone}
use Rattle.xfs_commands.specs.declared.commands.Verb.{Verb}
use Rattle.xfs_shell.specs.Running.{block_at_place, image_after, is_quit_verb, runs, runs_addr, runs_print, writes}
use Rattle.xfs_shell.specs.Stops.{Passes}
use Rattle.xfs_shell.proofs.Settling.{alone_quits, effect_as, outcome_as, read_passed, runs_other, settled, still_passes}
use Rattle.xfs_shell.proofs.Stepping.{rested}
use Rattle.xfs_shell.proofs.session.run_verb.Goals as goal

pub returns-in-Addr-clause-outcome : goal.returns-in-Addr-clause-outcome
returns-in-Addr-clause-outcome g c =
    λ image told.
    outcome_as (runs (volume_of c.args.geometry.now) c.args.leave c.args.verb c.args.name.now c.args.arguments.now (block_at_place image c.args.cursor.now.at) (session_of c.args.cursor.now)) (runs_addr (volume_of c.args.geometry.now) c.word_at.result.now (block_at_place image c.args.cursor.now.at) (session_of c.args.cursor.now)) image c.args.text.now.items c.run_addr.new.text.items (session_of c.run_addr.new.cursor) (g.D.Disk.holds c.run_addr.new.disk)
    (g.D.Disk.writes c.args.disk.now) (g.D.Disk.writes c.run_addr.new.disk) c.run_addr.result
    (ap (λ (w : List ℕ). runs_addr (volume_of c.args.geometry.now) w (block_at_place image c.args.cursor.now.at) (session_of c.args.cursor.now)) c.word_at.ensures
    ∙ ap (λ (t : Verb). runs (volume_of c.args.geometry.now) c.args.leave t c.args.name.now c.args.arguments.now (block_at_place image c.args.cursor.now.at) (session_of c.args.cursor.now)) (sym c.in-Addr.is))
    (c.run_addr.ensures.outcome image told)

pub returns-in-Addr-clause-passes : goal.returns-in-Addr-clause-passes
returns-in-Addr-clause-passes g c =
    λ image told. read_passed g.D.Disk.size g.D.Disk.holds g.D.Disk.faults g.D.Disk.write_faults g.D.Disk.reads g.D.Disk.writes g.D.Disk.tells_stops g.D.Disk.moment
    g.D.Disk.may_leave g.D.Disk.left_since image _ c.args.disk.now c.run_addr.new.disk _ c.run_addr.ensures.disk

pub returns-in-Addr-clause-disk : goal.returns-in-Addr-clause-disk
returns-in-Addr-clause-disk g c =
    inl c.run_addr.ensures.disk

pub returns-in-Addr-clause-quits : goal.returns-in-Addr-clause-quits
returns-in-Addr-clause-quits g c =
    λ is. absurd (true≢false (sym is ∙ ap (λ (t : Verb). is_quit_verb (Some t)) c.in-Addr.is))

pub returns-in-Print-clause-outcome : goal.returns-in-Print-clause-outcome
returns-in-Print-clause-outcome g c =
    λ image told.
    outcome_as (runs (volume_of c.args.geometry.now) c.args.leave c.args.verb c.args.name.now c.args.arguments.now (block_at_place image c.args.cursor.now.at) (session_of c.args.cursor.now)) (runs_print c.args.arguments.now (block_at_place image c.args.cursor.now.at) (session_of c.args.cursor.now)) image c.args.text.now.items c.run_print.new.text.items (session_of c.args.cursor.now) (g.D.Disk.holds c.run_print.new.disk)
    (g.D.Disk.writes c.args.disk.now) (g.D.Disk.writes c.run_print.new.disk) c.run_print.result
    (ap (λ (t : Verb). runs (volume_of c.args.geometry.now) c.args.leave t c.args.name.now c.args.arguments.now (block_at_place image c.args.cursor.now.at) (session_of c.args.cursor.now)) (sym c.in-Print.is))
    (c.run_print.ensures.outcome image told)

pub returns-in-Print-clause-passes : goal.returns-in-Print-clause-passes
returns-in-Print-clause-passes g c =
    λ image told. read_passed g.D.Disk.size g.D.Disk.holds g.D.Disk.faults g.D.Disk.write_faults g.D.Disk.reads g.D.Disk.writes g.D.Disk.tells_stops g.D.Disk.moment
    g.D.Disk.may_leave g.D.Disk.left_since image _ c.args.disk.now c.run_print.new.disk _ c.run_print.ensures.disk

pub returns-in-Print-clause-disk : goal.returns-in-Print-clause-disk
returns-in-Print-clause-disk g c =
    inl c.run_print.ensures.disk

pub returns-in-Print-clause-quits : goal.returns-in-Print-clause-quits
returns-in-Print-clause-quits g c =
    λ is. absurd (true≢false (sym is ∙ ap (λ (t : Verb). is_quit_verb (Some t)) c.in-Print.is))

pub returns-in-Write-clause-outcome : goal.returns-in-Write-clause-outcome
returns-in-Write-clause-outcome g c =
    λ image told.
    outcome_as (runs (volume_of c.args.geometry.now) c.args.leave c.args.verb c.args.name.now c.args.arguments.now (block_at_place image c.args.cursor.now.at) (session_of c.args.cursor.now)) (writes c.args.leave (block_at_place image c.args.cursor.now.at) c.args.arguments.now (session_of c.args.cursor.now)) image c.args.text.now.items c.run_write.new.text.items (session_of c.args.cursor.now) (g.D.Disk.holds c.run_write.new.disk)
    (g.D.Disk.writes c.args.disk.now) (g.D.Disk.writes c.run_write.new.disk) c.run_write.result
    (ap (λ (t : Verb). runs (volume_of c.args.geometry.now) c.args.leave t c.args.name.now c.args.arguments.now (block_at_place image c.args.cursor.now.at) (session_of c.args.cursor.now)) (sym c.in-Write.is))
    (c.run_write.ensures.outcome image told)

pub returns-in-Write-clause-passes : goal.returns-in-Write-clause-passes
returns-in-Write-clause-passes g c =
    λ image told.
    subst (λ (e : Effect). Passes g.D.Disk.holds g.D.Disk.tells_stops g.D.Disk.moment g.D.Disk.may_leave g.D.Disk.left_since image (image_after e.put image) c.args.disk.now c.run_write.new.disk)
    (ap (λ (t : Verb). runs (volume_of c.args.geometry.now) c.args.leave t c.args.name.now c.args.arguments.now (block_at_place image c.args.cursor.now.at) (session_of c.args.cursor.now)) (sym c.in-Write.is))
    (c.run_write.ensures.passes image told)

pub returns-in-Write-clause-disk : goal.returns-in-Write-clause-disk
returns-in-Write-clause-disk g c =
    c.run_write.ensures.disk

pub returns-in-Write-clause-quits : goal.returns-in-Write-clause-quits
returns-in-Write-clause-quits g c =
    λ is. absurd (true≢false (sym is ∙ ap (λ (t : Verb). is_quit_verb (Some t)) c.in-Write.is))

pub returns-in_default-clause-outcome : goal.returns-in_default-clause-outcome
returns-in_default-clause-outcome g c =
    λ image told.
    settled (runs (volume_of c.args.geometry.now) c.args.leave c.args.verb c.args.name.now c.args.arguments.now (block_at_place image c.args.cursor.now.at) (session_of c.args.cursor.now)) image c.args.text.now.items c.run_alone.new.text.items (session_of c.run_alone.new.cursor) (g.D.Disk.holds c.args.disk.now)
    (g.D.Disk.writes c.args.disk.now) (g.D.Disk.writes c.args.disk.now) c.run_alone.result c.or_stop.result c.or_stop.ensures
    (effect_as c.run_alone.result c.args.text.now.items c.run_alone.new.text.items (session_of c.run_alone.new.cursor) None (runs (volume_of c.args.geometry.now) c.args.leave c.args.verb c.args.name.now c.args.arguments.now (block_at_place image c.args.cursor.now.at) (session_of c.args.cursor.now))
    (runs_alone (volume_of c.args.geometry.now) c.args.verb c.args.name.now c.args.arguments.now (session_of c.args.cursor.now))
    (runs_other (volume_of c.args.geometry.now) c.args.leave c.args.verb c.args.name.now c.args.arguments.now (block_at_place image c.args.cursor.now.at) (session_of c.args.cursor.now) c.in_default.not-Addr c.in_default.not-Print c.in_default.not-Write)
    c.run_alone.ensures.effect) told refl

pub returns-in_default-clause-passes : goal.returns-in_default-clause-passes
returns-in_default-clause-passes g c =
    λ image told. still_passes g.D.Disk.holds g.D.Disk.tells_stops g.D.Disk.moment g.D.Disk.may_leave g.D.Disk.left_since image _ c.args.disk.now

pub returns-in_default-clause-disk : goal.returns-in_default-clause-disk
returns-in_default-clause-disk g c =
    inl (rested g.D.Disk.size g.D.Disk.holds g.D.Disk.faults g.D.Disk.write_faults g.D.Disk.reads g.D.Disk.writes g.D.Disk.tells_stops g.D.Disk.moment
    g.D.Disk.may_leave g.D.Disk.left_since c.args.disk.now c.run_alone.result c.or_stop.result c.or_stop.ensures)

pub returns-in_default-clause-quits : goal.returns-in_default-clause-quits
returns-in_default-clause-quits g c =
    alone_quits (volume_of c.args.geometry.now) c.args.verb c.args.name.now c.args.arguments.now (session_of c.args.cursor.now) (session_of c.run_alone.new.cursor) c.args.text.now.items
    c.run_alone.new.text.items c.run_alone.result c.or_stop.result c.or_stop.ensures c.run_alone.ensures.effect

pub run_addr-requires-clause-inside : goal.run_addr-requires-clause-inside
run_addr-requires-clause-inside g c = c.requires.inside

pub run_addr-requires-clause-within : goal.run_addr-requires-clause-within
run_addr-requires-clause-within g c = c.requires.within

pub returns-in-Addr-clause-within : goal.returns-in-Addr-clause-within
returns-in-Addr-clause-within g c = c.run_addr.ensures.within

pub returns-in-Print-clause-within : goal.returns-in-Print-clause-within
returns-in-Print-clause-within g c = c.requires.within

pub returns-in-Write-clause-within : goal.returns-in-Write-clause-within
returns-in-Write-clause-within g c = c.requires.within

pub returns-in_default-clause-within : goal.returns-in_default-clause-within
returns-in_default-clause-within g c = c.run_alone.ensures.within

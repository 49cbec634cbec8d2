use Rattle.std.proofs.Common.{◌∙◌, None, codes}
use Rattle.xfs_commands.specs.Commands.{prints, session_of}
use Rattle.xfs_shell.specs.Running.{block_at_place, runs_print}
use Rattle.xfs_shell.proofs.Settling.{effect_as, ended_reading, print_here, print_placeless, settled, settled_refusal}
use Rattle.xfs_shell.proofs.Stepping.{read_ended, rested}
use Rattle.xfs_shell.proofs.session.run_print.Goals as goal

pub returns-in_default-clause-outcome : goal.returns-in_default-clause-outcome
returns-in_default-clause-outcome g c =
    λ image told.
    settled_refusal (runs_print c.args.arguments.now (block_at_place image c.args.cursor.now.at) (session_of c.args.cursor.now)) (codes "no address\n") image c.args.text.now.items c.refuse.new.text.items (session_of c.args.cursor.now) (g.D.Disk.holds c.args.disk.now) (g.D.Disk.writes c.args.disk.now)
    c.refuse.result c.or_stop.result (print_placeless c.args.arguments.now (block_at_place image c.args.cursor.now.at) (session_of c.args.cursor.now) c.in_default.is) c.or_stop.ensures c.refuse.ensures.verdict c.refuse.ensures.text told

pub returns-in_default-clause-disk : goal.returns-in_default-clause-disk
returns-in_default-clause-disk g c =
    rested g.D.Disk.size g.D.Disk.holds g.D.Disk.faults g.D.Disk.write_faults g.D.Disk.reads g.D.Disk.writes g.D.Disk.tells_stops g.D.Disk.moment
    g.D.Disk.may_leave g.D.Disk.left_since c.args.disk.now c.refuse.result c.or_stop.result c.or_stop.ensures

pub returns-in-Err-clause-outcome : goal.returns-in-Err-clause-outcome
returns-in-Err-clause-outcome g c =
    λ image told. ended_reading (runs_print c.args.arguments.now (block_at_place image c.args.cursor.now.at) (session_of c.args.cursor.now)) image (g.D.Disk.holds c.read_block.new.disk) c.in-Err.stop c.in-Err.ensures.fault (c.in-Err.ensures.disk.only_reads.same_contents ∙ told)

pub returns-in-Err-clause-disk : goal.returns-in-Err-clause-disk
returns-in-Err-clause-disk g c =
    c.in-Err.ensures.disk

pub returns-clause-outcome : goal.returns-clause-outcome
returns-clause-outcome g c =
    λ image told.
    settled (runs_print c.args.arguments.now (block_at_place image c.args.cursor.now.at) (session_of c.args.cursor.now)) image c.args.text.now.items c.print.new.text.items (session_of c.args.cursor.now) (g.D.Disk.holds c.read_block.new.disk)
    (g.D.Disk.writes c.args.disk.now) (g.D.Disk.writes c.read_block.new.disk) c.print.result c.or_stop-2.result c.or_stop-2.ensures
    (effect_as c.print.result c.args.text.now.items c.print.new.text.items (session_of c.args.cursor.now) None (runs_print c.args.arguments.now (block_at_place image c.args.cursor.now.at) (session_of c.args.cursor.now))
    (prints c.in-Some.place.kind c.object-object.result.now c.args.arguments.now (session_of c.args.cursor.now))
    (print_here image (session_of c.args.cursor.now) c.in-Some.place c.read_block.new.block c.object-object.result.now c.args.arguments.now c.in-Some.is (c.in-Ok.ensures.bytes image told)
    c.object-object.ensures.value) c.print.ensures)
    (c.in-Ok.ensures.disk.only_reads.same_contents ∙ told) c.in-Ok.ensures.disk.only_reads.same_writes

pub returns-clause-disk : goal.returns-clause-disk
returns-clause-disk g c =
    read_ended g.D.Disk.size g.D.Disk.holds g.D.Disk.faults g.D.Disk.write_faults g.D.Disk.reads g.D.Disk.writes g.D.Disk.tells_stops g.D.Disk.moment
    g.D.Disk.may_leave g.D.Disk.left_since c.args.disk.now c.read_block.new.disk c.print.result c.or_stop-2.result c.or_stop-2.ensures c.in-Ok.ensures.disk

use Rattle.std.proofs.Common.{◌∙◌, Err, ap, inl, inr, subst, codes}
use Rattle.xfs_disk.specs.Blocks.{Image}
use Rattle.xfs_commands.specs.Commands.{put_of, session_of}
use Rattle.xfs_commands.specs.declared.cursor.Verdict.{Verdict}
use Rattle.xfs_shell.specs.Running.{block_at_place, sets_here}
use Rattle.xfs_shell.specs.Stops.{Passes}
use Rattle.xfs_shell.proofs.Passing.{read_passes, sets_image}
use Rattle.xfs_shell.proofs.Settling.{ended_reading, ended_writing, ran_unwritten, ran_written, read_passed, set_here, set_placeless, settled_refusal, still_passes}
use Rattle.xfs_shell.proofs.Stepping.{read_put, read_then, rested}
use Rattle.xfs_shell.proofs.session.run_set.Goals as goal

pub returns-in_default-clause-outcome : goal.returns-in_default-clause-outcome
returns-in_default-clause-outcome g c =
    λ image told.
    settled_refusal (sets_here (block_at_place image c.args.cursor.now.at) c.args.arguments.now (session_of c.args.cursor.now)) (codes "no address\n") image c.args.text.now.items c.refuse.new.text.items (session_of c.args.cursor.now) (g.D.Disk.holds c.args.disk.now) (g.D.Disk.writes c.args.disk.now)
    c.refuse.result c.or_stop.result (set_placeless (block_at_place image c.args.cursor.now.at) c.args.arguments.now (session_of c.args.cursor.now) c.in_default.is) c.or_stop.ensures c.refuse.ensures.verdict c.refuse.ensures.text told

pub returns-in_default-clause-passes : goal.returns-in_default-clause-passes
returns-in_default-clause-passes g c =
    λ image told. still_passes g.D.Disk.holds g.D.Disk.tells_stops g.D.Disk.moment g.D.Disk.may_leave g.D.Disk.left_since image _ c.args.disk.now

pub returns-in_default-clause-disk : goal.returns-in_default-clause-disk
returns-in_default-clause-disk g c =
    inl (rested g.D.Disk.size g.D.Disk.holds g.D.Disk.faults g.D.Disk.write_faults g.D.Disk.reads g.D.Disk.writes g.D.Disk.tells_stops g.D.Disk.moment
    g.D.Disk.may_leave g.D.Disk.left_since c.args.disk.now c.refuse.result c.or_stop.result c.or_stop.ensures)

pub returns-in-Err-clause-outcome : goal.returns-in-Err-clause-outcome
returns-in-Err-clause-outcome g c =
    λ image told. ended_reading (sets_here (block_at_place image c.args.cursor.now.at) c.args.arguments.now (session_of c.args.cursor.now)) image (g.D.Disk.holds c.read_block.new.disk) c.in-Err.stop c.in-Err.ensures.fault (c.in-Err.ensures.disk.only_reads.same_contents ∙ told)

pub returns-in-Err-clause-passes : goal.returns-in-Err-clause-passes
returns-in-Err-clause-passes g c =
    λ image told. read_passed g.D.Disk.size g.D.Disk.holds g.D.Disk.faults g.D.Disk.write_faults g.D.Disk.reads g.D.Disk.writes g.D.Disk.tells_stops g.D.Disk.moment
    g.D.Disk.may_leave g.D.Disk.left_since image _ c.args.disk.now c.read_block.new.disk _ c.in-Err.ensures.disk

pub returns-in-Err-clause-disk : goal.returns-in-Err-clause-disk
returns-in-Err-clause-disk g c =
    inl c.in-Err.ensures.disk

pub returns-in-Err-set-clause-outcome : goal.returns-in-Err-set-clause-outcome
returns-in-Err-set-clause-outcome g c =
    λ image told. c.in-Ok.ensures.disk.only_reads.same_contents ∙ told

pub returns-in-Err-set-clause-passes : goal.returns-in-Err-set-clause-passes
returns-in-Err-set-clause-passes g c =
    λ image told. read_passed g.D.Disk.size g.D.Disk.holds g.D.Disk.faults g.D.Disk.write_faults g.D.Disk.reads g.D.Disk.writes g.D.Disk.tells_stops g.D.Disk.moment
    g.D.Disk.may_leave g.D.Disk.left_since image _ c.args.disk.now c.read_block.new.disk _ c.in-Ok.ensures.disk

pub returns-in-Err-set-clause-disk : goal.returns-in-Err-set-clause-disk
returns-in-Err-set-clause-disk g c =
    inl (read_then g.D.Disk.size g.D.Disk.holds g.D.Disk.faults g.D.Disk.write_faults g.D.Disk.reads g.D.Disk.writes g.D.Disk.tells_stops g.D.Disk.moment
    g.D.Disk.may_leave g.D.Disk.left_since c.args.disk.now c.read_block.new.disk (Err c.in-Err-set.field-0) c.in-Ok.ensures.disk)

pub returns-in-Refused-clause-outcome : goal.returns-in-Refused-clause-outcome
returns-in-Refused-clause-outcome g c =
    λ image told.
    ran_unwritten (sets_here (block_at_place image c.args.cursor.now.at) c.args.arguments.now (session_of c.args.cursor.now)) image c.in-Ok-set.verdict c.args.text.now.items c.set.new.text.items (session_of c.args.cursor.now) _ (g.D.Disk.holds c.read_block.new.disk)
    (g.D.Disk.writes c.args.disk.now) (g.D.Disk.writes c.read_block.new.disk)
    (set_here image (session_of c.args.cursor.now) c.in-Some.place c.read_block.new.block c.set.new.block c.args.arguments.now c.word_at-name.result.now
    c.word_at-value.result.now c.in-Ok-set.verdict c.args.text.now.items c.set.new.text.items c.in-Some.is (c.in-Ok.ensures.bytes image told) c.word_at-name.ensures
    c.word_at-value.ensures c.in-Ok-set.ensures)
    (ap (λ (v : Verdict). put_of v c.in-Some.place.block c.set.new.block) c.in-Refused.is) (c.in-Ok.ensures.disk.only_reads.same_contents ∙ told) c.in-Ok.ensures.disk.only_reads.same_writes

pub returns-in-Refused-clause-passes : goal.returns-in-Refused-clause-passes
returns-in-Refused-clause-passes g c =
    λ image told. read_passed g.D.Disk.size g.D.Disk.holds g.D.Disk.faults g.D.Disk.write_faults g.D.Disk.reads g.D.Disk.writes g.D.Disk.tells_stops g.D.Disk.moment
    g.D.Disk.may_leave g.D.Disk.left_since image _ c.args.disk.now c.read_block.new.disk _ c.in-Ok.ensures.disk

pub returns-in-Refused-clause-disk : goal.returns-in-Refused-clause-disk
returns-in-Refused-clause-disk g c =
    inl c.in-Ok.ensures.disk

pub returns-in-Quit-clause-outcome : goal.returns-in-Quit-clause-outcome
returns-in-Quit-clause-outcome g c =
    λ image told.
    ran_unwritten (sets_here (block_at_place image c.args.cursor.now.at) c.args.arguments.now (session_of c.args.cursor.now)) image c.in-Ok-set.verdict c.args.text.now.items c.set.new.text.items (session_of c.args.cursor.now) _ (g.D.Disk.holds c.read_block.new.disk)
    (g.D.Disk.writes c.args.disk.now) (g.D.Disk.writes c.read_block.new.disk)
    (set_here image (session_of c.args.cursor.now) c.in-Some.place c.read_block.new.block c.set.new.block c.args.arguments.now c.word_at-name.result.now
    c.word_at-value.result.now c.in-Ok-set.verdict c.args.text.now.items c.set.new.text.items c.in-Some.is (c.in-Ok.ensures.bytes image told) c.word_at-name.ensures
    c.word_at-value.ensures c.in-Ok-set.ensures)
    (ap (λ (v : Verdict). put_of v c.in-Some.place.block c.set.new.block) c.in-Quit.is) (c.in-Ok.ensures.disk.only_reads.same_contents ∙ told) c.in-Ok.ensures.disk.only_reads.same_writes

pub returns-in-Quit-clause-passes : goal.returns-in-Quit-clause-passes
returns-in-Quit-clause-passes g c =
    λ image told. read_passed g.D.Disk.size g.D.Disk.holds g.D.Disk.faults g.D.Disk.write_faults g.D.Disk.reads g.D.Disk.writes g.D.Disk.tells_stops g.D.Disk.moment
    g.D.Disk.may_leave g.D.Disk.left_since image _ c.args.disk.now c.read_block.new.disk _ c.in-Ok.ensures.disk

pub returns-in-Quit-clause-disk : goal.returns-in-Quit-clause-disk
returns-in-Quit-clause-disk g c =
    inl c.in-Ok.ensures.disk

pub returns-in-Ok-put_block-clause-outcome : goal.returns-in-Ok-put_block-clause-outcome
returns-in-Ok-put_block-clause-outcome g c =
    λ image told.
    ran_written (sets_here (block_at_place image c.args.cursor.now.at) c.args.arguments.now (session_of c.args.cursor.now)) image c.in-Ok-set.verdict c.args.text.now.items c.set.new.text.items (session_of c.args.cursor.now) c.in-Some.place.block c.set.new.block
    (g.D.Disk.holds c.put_block.new.disk) (g.D.Disk.writes c.args.disk.now) (g.D.Disk.writes c.read_block.new.disk) (g.D.Disk.writes c.put_block.new.disk)
    (set_here image (session_of c.args.cursor.now) c.in-Some.place c.read_block.new.block c.set.new.block c.args.arguments.now c.word_at-name.result.now
    c.word_at-value.result.now c.in-Ok-set.verdict c.args.text.now.items c.set.new.text.items c.in-Some.is (c.in-Ok.ensures.bytes image told) c.word_at-name.ensures
    c.word_at-value.ensures c.in-Ok-set.ensures)
    c.in-Done.is (c.in-Ok-put_block.ensures.written image (c.in-Ok.ensures.disk.only_reads.same_contents ∙ told)) c.in-Ok.ensures.disk.only_reads.same_writes c.in-Ok-put_block.ensures.disk.one_write

pub returns-in-Ok-put_block-clause-passes : goal.returns-in-Ok-put_block-clause-passes
returns-in-Ok-put_block-clause-passes g c =
    λ image told.
    let next =
    sets_image image (session_of c.args.cursor.now) c.in-Some.place c.read_block.new.block c.set.new.block c.args.arguments.now c.word_at-name.result.now
    c.word_at-value.result.now c.in-Ok-set.verdict c.in-Some.is (c.in-Ok.ensures.bytes image told) c.in-Done.is c.word_at-name.ensures c.word_at-value.ensures
    c.in-Ok-set.ensures.put_is
    in
    subst (λ (n : Image). Passes g.D.Disk.holds g.D.Disk.tells_stops g.D.Disk.moment g.D.Disk.may_leave g.D.Disk.left_since image n c.args.disk.now c.put_block.new.disk) next
    (read_passes g.D.Disk.size g.D.Disk.holds g.D.Disk.faults g.D.Disk.write_faults g.D.Disk.reads g.D.Disk.writes g.D.Disk.tells_stops g.D.Disk.moment
    g.D.Disk.may_leave g.D.Disk.left_since
    image _ c.args.disk.now c.read_block.new.disk c.put_block.new.disk c.in-Ok.ensures.disk.only_reads
    (c.put_block.ensures.passes image (c.in-Ok.ensures.disk.only_reads.same_contents ∙ told)))

pub returns-in-Ok-put_block-clause-disk : goal.returns-in-Ok-put_block-clause-disk
returns-in-Ok-put_block-clause-disk g c =
    inr
    (read_put g.D.Disk.size g.D.Disk.holds g.D.Disk.faults g.D.Disk.write_faults g.D.Disk.reads g.D.Disk.writes g.D.Disk.tells_stops g.D.Disk.moment
    g.D.Disk.may_leave g.D.Disk.left_since c.args.disk.now c.read_block.new.disk c.put_block.new.disk _ c.in-Ok.ensures.disk c.in-Ok-put_block.ensures.disk c.put_block.ensures.reads)

pub returns-in-Err-put_block-clause-outcome : goal.returns-in-Err-put_block-clause-outcome
returns-in-Err-put_block-clause-outcome g c =
    λ image told.
    ended_writing (sets_here (block_at_place image c.args.cursor.now.at) c.args.arguments.now (session_of c.args.cursor.now)) image c.in-Ok-set.verdict c.args.text.now.items c.set.new.text.items (session_of c.args.cursor.now) c.in-Some.place.block c.set.new.block
    (g.D.Disk.holds c.put_block.new.disk) c.in-Err-put_block.stop c.in-Err-put_block.ensures.fault.0
    (set_here image (session_of c.args.cursor.now) c.in-Some.place c.read_block.new.block c.set.new.block c.args.arguments.now c.word_at-name.result.now
    c.word_at-value.result.now c.in-Ok-set.verdict c.args.text.now.items c.set.new.text.items c.in-Some.is (c.in-Ok.ensures.bytes image told) c.word_at-name.ensures
    c.word_at-value.ensures c.in-Ok-set.ensures)
    c.in-Done.is c.in-Err-put_block.ensures.fault.1 (c.in-Err-put_block.ensures.fault.2 image (c.in-Ok.ensures.disk.only_reads.same_contents ∙ told))

pub returns-in-Err-put_block-clause-passes : goal.returns-in-Err-put_block-clause-passes
returns-in-Err-put_block-clause-passes g c =
    λ image told.
    let next =
    sets_image image (session_of c.args.cursor.now) c.in-Some.place c.read_block.new.block c.set.new.block c.args.arguments.now c.word_at-name.result.now
    c.word_at-value.result.now c.in-Ok-set.verdict c.in-Some.is (c.in-Ok.ensures.bytes image told) c.in-Done.is c.word_at-name.ensures c.word_at-value.ensures
    c.in-Ok-set.ensures.put_is
    in
    subst (λ (n : Image). Passes g.D.Disk.holds g.D.Disk.tells_stops g.D.Disk.moment g.D.Disk.may_leave g.D.Disk.left_since image n c.args.disk.now c.put_block.new.disk) next
    (read_passes g.D.Disk.size g.D.Disk.holds g.D.Disk.faults g.D.Disk.write_faults g.D.Disk.reads g.D.Disk.writes g.D.Disk.tells_stops g.D.Disk.moment
    g.D.Disk.may_leave g.D.Disk.left_since
    image _ c.args.disk.now c.read_block.new.disk c.put_block.new.disk c.in-Ok.ensures.disk.only_reads
    (c.put_block.ensures.passes image (c.in-Ok.ensures.disk.only_reads.same_contents ∙ told)))

pub returns-in-Err-put_block-clause-disk : goal.returns-in-Err-put_block-clause-disk
returns-in-Err-put_block-clause-disk g c =
    inr
    (read_put g.D.Disk.size g.D.Disk.holds g.D.Disk.faults g.D.Disk.write_faults g.D.Disk.reads g.D.Disk.writes g.D.Disk.tells_stops g.D.Disk.moment
    g.D.Disk.may_leave g.D.Disk.left_since c.args.disk.now c.read_block.new.disk c.put_block.new.disk _ c.in-Ok.ensures.disk c.in-Err-put_block.ensures.disk c.put_block.ensures.reads)

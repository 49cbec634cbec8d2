use Rattle.std.proofs.Common.{sym, arith}
use Rattle.xfs_journal.proofs.Outside.{no_number}
use Rattle.xfs_disk.proofs.Reading.{reads_none}
use Rattle.xfs_journal.proofs.lsns.read_lsn.Goals as goal

pub returns-then-place-size-clause-lsn : goal.returns-then-place-size-clause-lsn
returns-then-place-size-clause-lsn g c = λ image told.
    let shape = g.met.D.Disk.shape c.args.disk.now image told in
    let count = shape.count in
    let size = c.requires.size in
    let outside = c.if-place-size.true in
    sym (no_number image c.args.place.now.block c.args.place.now.byte (omega (arith, count, size, outside)))

pub returns-in-Some-clause-lsn : goal.returns-in-Some-clause-lsn
returns-in-Some-clause-lsn g c = λ image told. rw c.in-Some.is at (c.requires.known image told)

pub returns-in-Some-clause-held : goal.returns-in-Some-clause-held
returns-in-Some-clause-held g c = c.requires.held

pub returns-in-Some-clause-cause : goal.returns-in-Some-clause-cause
returns-in-Some-clause-cause g c = omega arith

pub returns-in-Some-clause-disk : goal.returns-in-Some-clause-disk
returns-in-Some-clause-disk g c =
    let D = g.D.Disk in
    reads_none D.size D.holds D.write_faults D.writes D.tells_stops D.moment D.may_leave D.left_since c.args.disk.now

pub returns-in-Some-clause-ticks : goal.returns-in-Some-clause-ticks
returns-in-Some-clause-ticks g c = omega arith

pub returns-in-Some-clause-reads : goal.returns-in-Some-clause-reads
returns-in-Some-clause-reads g c = omega arith

pub returns-then-place-size-clause-held : goal.returns-then-place-size-clause-held
returns-then-place-size-clause-held g c = c.requires.held

pub returns-then-place-size-clause-cause : goal.returns-then-place-size-clause-cause
returns-then-place-size-clause-cause g c = omega arith

pub returns-then-place-size-clause-disk : goal.returns-then-place-size-clause-disk
returns-then-place-size-clause-disk g c =
    let D = g.D.Disk in
    reads_none D.size D.holds D.write_faults D.writes D.tells_stops D.moment D.may_leave D.left_since c.args.disk.now

pub returns-then-place-size-clause-ticks : goal.returns-then-place-size-clause-ticks
returns-then-place-size-clause-ticks g c = omega arith

pub returns-then-place-size-clause-reads : goal.returns-then-place-size-clause-reads
returns-then-place-size-clause-reads g c = omega arith

pub hold-requires-clause-held : goal.hold-requires-clause-held
hold-requires-clause-held g c = c.requires.held

pub returns-in-Ok-clause-held : goal.returns-in-Ok-clause-held
returns-in-Ok-clause-held g c = c.in-Ok.ensures.held

pub returns-in-Ok-clause-cause : goal.returns-in-Ok-clause-cause
returns-in-Ok-clause-cause g c = c.in-Ok.ensures.cause

pub returns-in-Ok-clause-disk : goal.returns-in-Ok-clause-disk
returns-in-Ok-clause-disk g c = c.hold.ensures.disk

pub returns-in-Ok-clause-ticks : goal.returns-in-Ok-clause-ticks
returns-in-Ok-clause-ticks g c = c.hold.ensures.ticks

pub returns-in-Ok-clause-reads : goal.returns-in-Ok-clause-reads
returns-in-Ok-clause-reads g c = c.hold.ensures.reads

pub returns-in-Err-clause-lsn : goal.returns-in-Err-clause-lsn
returns-in-Err-clause-lsn g c = tt

pub returns-in-Err-clause-held : goal.returns-in-Err-clause-held
returns-in-Err-clause-held g c = tt

pub returns-in-Err-clause-cause : goal.returns-in-Err-clause-cause
returns-in-Err-clause-cause g c = c.in-Err.ensures.cause

pub returns-in-Err-clause-disk : goal.returns-in-Err-clause-disk
returns-in-Err-clause-disk g c = c.hold.ensures.disk

pub returns-in-Err-clause-ticks : goal.returns-in-Err-clause-ticks
returns-in-Err-clause-ticks g c = c.hold.ensures.ticks

pub returns-in-Err-clause-reads : goal.returns-in-Err-clause-reads
returns-in-Err-clause-reads g c = c.hold.ensures.reads

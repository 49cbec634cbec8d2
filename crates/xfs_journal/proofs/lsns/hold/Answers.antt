use Rattle.std.proofs.Common.{sym, ◌∙◌, refl, arith}
use Rattle.xfs_journal.proofs.Outside.{is_asked, is_held, not_asked, read_bytes}
use Rattle.xfs_disk.proofs.Reading.{reads_none}
use Rattle.xfs_journal.proofs.lsns.hold.Goals as goal

pub returns-then-eq-clause-bytes : goal.returns-then-eq-clause-bytes
returns-then-eq-clause-bytes g c = λ image told.
    is_held image c.args.held.now.block c.args.block c.args.held.now.bytes (sym c.eq.ensures ∙ c.if-eq.true) (c.requires.held image told)

pub returns-in-Ok-clause-bytes : goal.returns-in-Ok-clause-bytes
returns-in-Ok-clause-bytes g c = λ image told. read_bytes image c.args.block c.read.new.into (c.in-Ok.ensures.bytes image told)

pub returns-in-Ok-clause-held : goal.returns-in-Ok-clause-held
returns-in-Ok-clause-held g c = λ image told. read_bytes image c.args.block c.read.new.into (c.in-Ok.ensures.bytes image told)

pub returns-then-eq-clause-stays : goal.returns-then-eq-clause-stays
returns-then-eq-clause-stays g c = is_asked c.args.held.now.block c.args.block (sym c.eq.ensures ∙ c.if-eq.true)

pub returns-in-Ok-clause-once : goal.returns-in-Ok-clause-once
returns-in-Ok-clause-once g c = not_asked c.args.held.now.block c.args.block _ _ (sym c.eq.ensures ∙ c.if-eq.false)

pub returns-in-Err-clause-once : goal.returns-in-Err-clause-once
returns-in-Err-clause-once g c = not_asked c.args.held.now.block c.args.block _ _ (sym c.eq.ensures ∙ c.if-eq.false)

pub returns-then-eq-clause-held : goal.returns-then-eq-clause-held
returns-then-eq-clause-held g c = c.requires.held

pub returns-then-eq-clause-cause : goal.returns-then-eq-clause-cause
returns-then-eq-clause-cause g c = omega arith

pub returns-then-eq-clause-disk : goal.returns-then-eq-clause-disk
returns-then-eq-clause-disk g c =
    let D = g.D.Disk in
    reads_none D.size D.holds D.write_faults D.writes D.tells_stops D.moment D.may_leave D.left_since c.args.disk.now

pub returns-then-eq-clause-ticks : goal.returns-then-eq-clause-ticks
returns-then-eq-clause-ticks g c = omega arith

pub returns-then-eq-clause-once : goal.returns-then-eq-clause-once
returns-then-eq-clause-once g c = λ held. refl

pub returns-then-eq-clause-reads : goal.returns-then-eq-clause-reads
returns-then-eq-clause-reads g c = omega arith

pub read-requires-clause-inside : goal.read-requires-clause-inside
read-requires-clause-inside g c = c.requires.inside

pub returns-in-Ok-clause-cause : goal.returns-in-Ok-clause-cause
returns-in-Ok-clause-cause g c = c.in-Ok.ensures.cause

pub returns-in-Ok-clause-disk : goal.returns-in-Ok-clause-disk
returns-in-Ok-clause-disk g c =
    let read = c.in-Ok.ensures in
    record { same_size = read.size; same_contents = read.holds; same_write_faults = read.write_faults; same_writes = read.writes; tells = read.tells; leaves = read.stops; past = read.past }

pub returns-in-Ok-clause-ticks : goal.returns-in-Ok-clause-ticks
returns-in-Ok-clause-ticks g c = omega (arith, c.tick.ensures)

pub returns-in-Ok-clause-stays : goal.returns-in-Ok-clause-stays
returns-in-Ok-clause-stays g c = refl

pub returns-in-Ok-clause-reads : goal.returns-in-Ok-clause-reads
returns-in-Ok-clause-reads g c =
    let more = c.in-Ok.ensures.reads in
    let step = c.tick.ensures in
    omega (arith, more, step)

pub returns-in-Err-clause-bytes : goal.returns-in-Err-clause-bytes
returns-in-Err-clause-bytes g c = tt

pub returns-in-Err-clause-held : goal.returns-in-Err-clause-held
returns-in-Err-clause-held g c = tt

pub returns-in-Err-clause-cause : goal.returns-in-Err-clause-cause
returns-in-Err-clause-cause g c = c.in-Err.ensures.cause

pub returns-in-Err-clause-disk : goal.returns-in-Err-clause-disk
returns-in-Err-clause-disk g c =
    let read = c.in-Err.ensures in
    record { same_size = read.size; same_contents = read.holds; same_write_faults = read.write_faults; same_writes = read.writes; tells = read.tells; leaves = read.stops; past = read.past }

pub returns-in-Err-clause-ticks : goal.returns-in-Err-clause-ticks
returns-in-Err-clause-ticks g c = omega (arith, c.tick.ensures)

pub returns-in-Err-clause-stays : goal.returns-in-Err-clause-stays
returns-in-Err-clause-stays g c = tt

pub returns-in-Err-clause-reads : goal.returns-in-Err-clause-reads
returns-in-Err-clause-reads g c =
    let more = c.in-Err.ensures.reads in
    let step = c.tick.ensures in
    omega (arith, more, step)

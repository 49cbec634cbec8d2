use Rattle.std.proofs.Common.{arith}
use Rattle.xfs_disk.proofs.Reading.{reads_none}
use Rattle.xfs_forest.proofs.loading.load_round.Goals as goal

pub returns-in-Err : goal.returns-in-Err
returns-in-Err g c = let D = g.D.Disk in record { size = tt; held = tt; cause = omega arith; disk = reads_none D.size D.holds D.write_faults D.writes D.tells_stops D.moment D.may_leave D.left_since c.args.disk.now; reads = omega arith }

pub returns-in-Err-fill : goal.returns-in-Err-fill
returns-in-Err-fill g c = record { size = tt; held = tt; cause = c.in-Err-fill.ensures.cause; disk = c.fill.ensures.disk; reads = omega (arith, c.fill.ensures.reads, c.tick_often.ensures) }

pub returns-in-Ok-fill-clause-cause : goal.returns-in-Ok-fill-clause-cause
returns-in-Ok-fill-clause-cause g c = c.in-Ok-fill.ensures.cause

pub returns-in-Ok-fill-clause-disk : goal.returns-in-Ok-fill-clause-disk
returns-in-Ok-fill-clause-disk g c = c.fill.ensures.disk

pub returns-in-Ok-fill-clause-reads : goal.returns-in-Ok-fill-clause-reads
returns-in-Ok-fill-clause-reads g c = omega (arith, c.fill.ensures.reads, c.tick_often.ensures)

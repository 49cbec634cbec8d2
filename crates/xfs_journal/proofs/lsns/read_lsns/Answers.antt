use Rattle.std.proofs.Common.{sym, subst, arith}
use Rattle.std.specs.List.{All}
use Rattle.xfs_disk.proofs.Reading.{reads_none}
use Rattle.xfs_journal.specs.Placed.{IsInBlock}
use Rattle.xfs_journal.proofs.lsns.read_lsns.Goals as goal

pub ordered_places-requires-clause-few : goal.ordered_places-requires-clause-few
ordered_places-requires-clause-few g c = c.requires.few

pub ordered_places-requires-clause-clusters : goal.ordered_places-requires-clause-clusters
ordered_places-requires-clause-clusters g c = c.requires.clusters

pub ordered_places-requires-clause-low : goal.ordered_places-requires-clause-low
ordered_places-requires-clause-low g c = c.requires.low

pub read_places-requires-clause-inside : goal.read_places-requires-clause-inside
read_places-requires-clause-inside g c = subst (All IsInBlock) (sym c.deref.ensures.value) c.in-Ok.ensures.inside

pub read_places-requires-clause-known : goal.read_places-requires-clause-known
read_places-requires-clause-known g c = c.requires.known

pub returns-in-Err : goal.returns-in-Err
returns-in-Err g c =
    let D = g.D.Disk in
    record { lsns = tt; cause = omega arith; disk = reads_none D.size D.holds D.write_faults D.writes D.tells_stops D.moment D.may_leave D.left_since c.args.disk.now; reads = omega arith }

pub returns-in-Ok-read_places-clause-cause : goal.returns-in-Ok-read_places-clause-cause
returns-in-Ok-read_places-clause-cause g c = c.in-Ok-read_places.ensures.cause

pub returns-in-Ok-read_places-clause-disk : goal.returns-in-Ok-read_places-clause-disk
returns-in-Ok-read_places-clause-disk g c = c.read_places.ensures.disk

pub returns-in-Ok-read_places-clause-reads : goal.returns-in-Ok-read_places-clause-reads
returns-in-Ok-read_places-clause-reads g c = c.read_places.ensures.reads

pub returns-clause-lsns : goal.returns-clause-lsns
returns-clause-lsns g c = tt

pub returns-clause-disk : goal.returns-clause-disk
returns-clause-disk g c = c.read_places.ensures.disk

pub returns-clause-reads : goal.returns-clause-reads
returns-clause-reads g c = c.read_places.ensures.reads

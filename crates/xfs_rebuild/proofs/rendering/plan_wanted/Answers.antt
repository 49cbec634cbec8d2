use Rattle.xfs_disk.proofs.Reading.{reads_none}
use Rattle.xfs_rebuild.proofs.Causes.{no_later}
use Rattle.xfs_rebuild.proofs.Rebuilding.{none_placed, planned_for}
use Rattle.xfs_rebuild.proofs.rendering.plan_wanted.Goals as goal

pub chunks_are_few-requires : goal.chunks_are_few-requires
chunks_are_few-requires g c = c.requires.writable

pub place-requires-clause-kept : goal.place-requires-clause-kept
place-requires-clause-kept g c = c.requires.stands

pub place-requires-clause-asks : goal.place-requires-clause-asks
place-requires-clause-asks g c = c.requires.writable.asks

pub place-requires-clause-inodes : goal.place-requires-clause-inodes
place-requires-clause-inodes g c = c.requires.writable.inodes

pub place-requires-clause-few : goal.place-requires-clause-few
place-requires-clause-few g c = c.chunks_are_few.ensures

pub plan_placed-planned-requires-clause-inside : goal.plan_placed-planned-requires-clause-inside
plan_placed-planned-requires-clause-inside g c κs within = c.requires.inside

pub plan_placed-planned-requires-clause-stands : goal.plan_placed-planned-requires-clause-stands
plan_placed-planned-requires-clause-stands g c κs within =
    let stood = c.in-Ok.ensures in record { runs' = stood.runs; groups' = stood.groups; apart = stood.apart; pool = stood.pool; counts' = stood.counts }

pub plan_placed-planned-requires-clause-cuts : goal.plan_placed-planned-requires-clause-cuts
plan_placed-planned-requires-clause-cuts g c κs within = c.in-Ok.ensures.cuts

pub plan_placed-planned-requires-clause-writable : goal.plan_placed-planned-requires-clause-writable
plan_placed-planned-requires-clause-writable g c κs within = c.requires.writable

pub plan_placed-planned-requires-clause-held : goal.plan_placed-planned-requires-clause-held
plan_placed-planned-requires-clause-held g c κs within = c.requires.held

pub returns : goal.returns
returns g c =
    let stood = c.in-Ok.ensures in
    let planned = c.plan_placed-planned.ensures in
    record {
      writable = planned.writable;
      planned =
          planned_for c.args.wanted.now c.in-Ok.placed c.args.bytes.now (g.D.Disk.holds c.args.disk.now) c.plan_placed-planned.result
          (record { runs' = stood.runs; groups' = stood.groups; apart = stood.apart; pool = stood.pool; counts' = stood.counts }) planned.planned;
      kept = planned.kept;
      cleared = planned.cleared;
      refused = none_placed c.args.wanted.now c.plan_placed-planned.result planned.refused;
      cause = planned.cause;
      disk = planned.disk;
    }

pub returns-in-Err-NoMemory : goal.returns-in-Err-NoMemory
returns-in-Err-NoMemory g c =
    let D = g.D.Disk in
    record {
      writable = tt;
      planned = tt;
      kept = tt;
      cleared = tt;
      refused = tt;
      cause = no_later (D.faults c.args.disk.now);
      disk = reads_none D.size D.holds D.write_faults D.writes D.tells_stops D.moment D.may_leave D.left_since c.args.disk.now;
    }

pub returns-in-Err-NoRoom-clause-cause : goal.returns-in-Err-NoRoom-clause-cause
returns-in-Err-NoRoom-clause-cause g c = no_later (g.D.Disk.faults c.args.disk.now)

pub returns-in-Err-NoRoom-clause-disk : goal.returns-in-Err-NoRoom-clause-disk
returns-in-Err-NoRoom-clause-disk g c =
    let D = g.D.Disk in
    reads_none D.size D.holds D.write_faults D.writes D.tells_stops D.moment D.may_leave D.left_since c.args.disk.now

use Rattle.xfs_disk.proofs.Reading.{reads_none}
use Rattle.xfs_geom.specs.Volumes.{volume_of}
use Rattle.xfs_rebuild.specs.Rebuilds.{ground}
use Rattle.xfs_rebuild.proofs.Causes.{no_later}
use Rattle.xfs_rebuild.proofs.Rebuilding.{is_ground, none_rebuilt, rebuilt}
use Rattle.xfs_rebuild.proofs.planning.plan_rebuild.Goals as goal

pub plan_kept-requires-clause-accepted : goal.plan_kept-requires-clause-accepted
plan_kept-requires-clause-accepted g c κs within = c.requires.accepted

pub plan_kept-requires-clause-states : goal.plan_kept-requires-clause-states
plan_kept-requires-clause-states g c κs within = c.requires.states

pub plan_kept-requires-clause-inside : goal.plan_kept-requires-clause-inside
plan_kept-requires-clause-inside g c κs within = c.requires.inside

pub plan_kept-requires-clause-found : goal.plan_kept-requires-clause-found
plan_kept-requires-clause-found g c κs within =
    let saved = c.in-Ok-salvage.ensures in
    record { clusters = c.records_found.result.clusters; files = c.records_found.result.files; can = saved.can; is = record { clusters' = saved.clusters; files' = saved.files; fresh' = saved.fresh } }

pub returns-in-Err : goal.returns-in-Err
returns-in-Err g c =
    let D = g.D.Disk in
    record {
      writable = tt;
      rebuilt = tt;
      refused = tt;
      cause = no_later (D.faults c.args.disk.now);
      disk = reads_none D.size D.holds D.write_faults D.writes D.tells_stops D.moment D.may_leave D.left_since c.args.disk.now;
    }

pub returns-in-Err-reserved_found : goal.returns-in-Err-reserved_found
returns-in-Err-reserved_found g c =
    let D = g.D.Disk in
    record {
      writable = tt;
      rebuilt = tt;
      refused = tt;
      cause = no_later (D.faults c.args.disk.now);
      disk = reads_none D.size D.holds D.write_faults D.writes D.tells_stops D.moment D.may_leave D.left_since c.args.disk.now;
    }

pub returns-in-Err-salvage : goal.returns-in-Err-salvage
returns-in-Err-salvage g c =
    let D = g.D.Disk in
    record {
      writable = tt;
      rebuilt = tt;
      refused = tt;
      cause = no_later (D.faults c.args.disk.now);
      disk = reads_none D.size D.holds D.write_faults D.writes D.tells_stops D.moment D.may_leave D.left_since c.args.disk.now;
    }

pub returns : goal.returns
returns g c =
    let e = c.args.evidence in
    let saved = c.in-Ok-salvage.ensures in
    let found = c.records_found.ensures in
    let planned = c.plan_kept.ensures in
    let on = ground c.in-Ok-salvage.kept c.in-Ok.slots c.in-Ok-reserved_found.reserved e.log in
    let of =
    is_ground (volume_of c.args.chosen.now.geometry) c.records_found.result c.in-Ok-salvage.kept saved.clusters saved.files saved.fresh e c.in-Ok.slots c.in-Ok-reserved_found.reserved
    found.clusters found.files found.entries found.dirs saved.entries saved.dirs c.in-Ok.ensures c.in-Ok-reserved_found.ensures in
    record {
      writable = planned.writable;
      rebuilt = rebuilt c.args.chosen.now.geometry c.args.chosen.now.sector c.args.stamp.now e on (g.D.Disk.holds c.args.disk.now) c.plan_kept.result of planned.planned;
      refused =
          none_rebuilt c.args.chosen.now.geometry c.args.stamp.now e on c.plan_kept.result of
          (record { clusters = c.records_found.result.clusters; files = c.records_found.result.files; can = saved.can; is = record { clusters' = saved.clusters; files' = saved.files; fresh' = saved.fresh } })
          planned.refused;
      cause = planned.cause;
      disk = planned.disk;
    }

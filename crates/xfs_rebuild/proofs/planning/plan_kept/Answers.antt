use Rattle.std.proofs.Common.{ℕ, ◌≤◌, sym, subst}
use Rattle.xfs_disk.proofs.Reading.{reads_on}
use Rattle.xfs_geom.specs.Volumes.{volume_of}
use Rattle.xfs_rebuild.specs.Rebuilds.{ground}
use Rattle.xfs_rebuild.proofs.Causes.{caused_since}
use Rattle.xfs_rebuild.proofs.Asked.{numbers_of, planned_before, read_refused_on, writable_before}
use Rattle.xfs_rebuild.proofs.Grounds.{clusters_found, files_found, in_order}
use Rattle.xfs_rebuild.proofs.planning.plan_kept.Goals as goal

pub kept_numbers-requires-clause-files : goal.kept_numbers-requires-clause-files
kept_numbers-requires-clause-files g c = in_order c.args.kept.files (files_found (volume_of c.args.chosen.now.geometry) c.args.kept c.requires.found)

pub kept_numbers-requires-clause-clusters : goal.kept_numbers-requires-clause-clusters
kept_numbers-requires-clause-clusters g c = clusters_found (volume_of c.args.chosen.now.geometry) c.args.kept c.requires.found

pub plan_numbered-requires-clause-accepted : goal.plan_numbered-requires-clause-accepted
plan_numbered-requires-clause-accepted g c κs within = c.requires.accepted

pub plan_numbered-requires-clause-states : goal.plan_numbered-requires-clause-states
plan_numbered-requires-clause-states g c κs within = c.requires.states

pub plan_numbered-requires-clause-inside : goal.plan_numbered-requires-clause-inside
plan_numbered-requires-clause-inside g c κs within =
    subst (λ (size : ℕ). c.args.chosen.now.geometry.dblocks ≤ size) (sym c.in-Ok.ensures.disk.same_size) c.requires.inside

pub plan_numbered-requires-clause-found : goal.plan_numbered-requires-clause-found
plan_numbered-requires-clause-found g c κs within = c.requires.found

pub plan_numbered-requires-clause-numbers : goal.plan_numbered-requires-clause-numbers
plan_numbered-requires-clause-numbers g c κs within =
    let D = g.D.Disk in
    numbers_of (volume_of c.args.chosen.now.geometry) c.args.kept c.as_slice.result.now c.args.seen (D.holds c.args.disk.now) (D.holds c.kept_numbers.new.disk)
    c.in-Ok.numbers.items c.as_slice-numbers.result.now c.as_slice.ensures c.in-Ok.ensures.disk.same_contents c.as_slice-numbers.ensures.value c.in-Ok.ensures.numbers

pub returns-in-Ok : goal.returns-in-Ok
returns-in-Ok g c =
    let D = g.D.Disk in
    let read = c.in-Ok.ensures in
    let planned = c.plan_numbered.ensures in
    let on = ground c.args.kept c.args.seen c.args.reserved c.args.log.now in
    let size = D.size c.args.disk.now in
    record {
      writable = writable_before c.plan_numbered.result size (D.size c.kept_numbers.new.disk) read.disk.same_size planned.writable;
      planned = planned_before c.args.chosen.now.geometry c.args.chosen.now.sector c.args.stamp.now on c.plan_numbered.result (D.holds c.args.disk.now) (D.holds c.kept_numbers.new.disk) read.disk.same_contents planned.planned;
      refused = planned.refused;
      cause = caused_since (D.faults c.args.disk.now) (D.faults c.kept_numbers.new.disk) (D.faults c.plan_numbered.new.disk) c.plan_numbered.result read.cause planned.cause;
      disk = reads_on D.size D.holds D.write_faults D.writes D.tells_stops D.moment D.may_leave D.left_since c.args.disk.now c.kept_numbers.new.disk c.plan_numbered.new.disk read.disk planned.disk;
    }

pub returns-in-Err : goal.returns-in-Err
returns-in-Err g c =
    let failed = c.in-Err.ensures in
    record {
      writable = tt;
      planned = tt;
      refused = read_refused_on c.args.chosen.now.geometry c.args.stamp.now (ground c.args.kept c.args.seen c.args.reserved c.args.log.now) c.in-Err.fault failed.refused;
      cause = failed.cause;
      disk = failed.disk;
    }

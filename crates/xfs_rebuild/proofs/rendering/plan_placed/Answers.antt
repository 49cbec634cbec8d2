use Rattle.std.proofs.Common.{arith}
use Rattle.xfs_disk.proofs.Reading.{reads_none}
use Rattle.xfs_request.proofs.xfs_empty.Planned.{planned_low}
use Rattle.xfs_rebuild.proofs.Causes.{no_later}
use Rattle.xfs_rebuild.proofs.Rebuilding.{rendered_left}
use Rattle.xfs_rebuild.proofs.rendering.plan_placed.Goals as goal

pub leave_equal-requires-clause-inside : goal.leave_equal-requires-clause-inside
leave_equal-requires-clause-inside g c = λ k d low.
    let here = planned_low c.args.wanted.now c.args.placed.now c.args.bytes.now c.in-Ok.plan c.placed_is_ready.ensures c.in-Ok.ensures k d low in
    let inside = c.requires.inside in
    omega (arith, here, inside)

pub leave_equal-requires-clause-banked : goal.leave_equal-requires-clause-banked
leave_equal-requires-clause-banked g c = c.in-Ok.ensures.inside

pub returns-in-Err : goal.returns-in-Err
returns-in-Err g c =
    let D = g.D.Disk in
    record {
      writable = tt;
      planned = tt;
      kept = tt;
      cleared = tt;
      refused = tt;
      cause = no_later (D.faults c.args.disk.now);
      disk = reads_none D.size D.holds D.write_faults D.writes D.tells_stops D.moment D.may_leave D.left_since c.args.disk.now;
    }

pub returns : goal.returns
returns g c =
    let left = c.leave_equal.ensures in
    record {
      writable = left.writable;
      planned = rendered_left c.args.wanted.now c.args.placed.now c.args.bytes.now c.in-Ok.plan (g.D.Disk.holds c.args.disk.now) c.leave_equal.result c.in-Ok.ensures left.left;
      kept = left.kept;
      cleared = left.cleared;
      refused = left.refused;
      cause = left.cause;
      disk = left.disk;
    }

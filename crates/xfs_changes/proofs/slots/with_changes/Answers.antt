use Rattle.std.proofs.Common.{arith}
use Rattle.xfs_changes.proofs.Merging.{change_more, changes_done}
use Rattle.xfs_changes.proofs.slots.with_changes.Goals as goal

pub loop-change-preserved : goal.loop-change-preserved
loop-change-preserved c =
    change_more c.args.changes.now c.loop-change.change-index c.change-item.result c.loop-change.all.items c.put_change.new.all.items _ c.loop-change.rest.now c.in_ok-rest.rest.now
    c.loop-change-test.true c.change-item.is c.in_ok-rest.ensures c.loop-change.invariant

pub returns : goal.returns
returns c = changes_done c.args.changes.now c.loop-change.change-index c.loop-change.all.items c.push_slots.new.all.items _ c.loop-change.rest.now (omega (arith, c.loop-change-test.false)) c.in_ok-push_slots.ensures c.loop-change.invariant

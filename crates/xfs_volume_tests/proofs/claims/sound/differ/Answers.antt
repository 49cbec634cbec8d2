use Rattle.std.proofs.Common.{◌-◌, arith}
use Rattle.xfs_claims.proofs.Different.{later_step}
use Rattle.xfs_volume_tests.proofs.claims.sound.differ.Goals as goal

pub loop-left-preserved : goal.loop-left-preserved
loop-left-preserved c =
    later_step c.args.numbers.now c.loop-left.later.keys c.insert.new.self.keys c.loop-left.left (c.loop-left.left - 1) c.in_ok-insert.field-0 (omega arith)
    c.loop-left.invariant c.in_ok-insert.ensures.added c.if-not-branch.false c.in_ok-insert.ensures.keys

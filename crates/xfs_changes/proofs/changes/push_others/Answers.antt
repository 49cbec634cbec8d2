use Rattle.std.proofs.Common.{◌+◌, [], ◌∷◌, ◌++◌, ap, ◌∙◌}
use Rattle.xfs_changes.specs.declared.changes.SlotChange.{SlotChange}
use Rattle.xfs_changes.specs.Slots.{free_change}
use Rattle.xfs_changes.proofs.Pushing.{number_more}
use Rattle.xfs_changes.proofs.changes.push_others.Goals as goal

pub loop-i-preserved : goal.loop-i-preserved
loop-i-preserved c = number_more free_change (c.args.ino + 1) c.loop-i.i 31 c.loop-i.changes.items c.push.new.self.items _ c.loop-i-test.true
    (c.in_ok-push.ensures.items ∙ ap (λ (x : SlotChange). c.loop-i.changes.items ++ x ∷ []) c.free_change.ensures) c.loop-i.invariant

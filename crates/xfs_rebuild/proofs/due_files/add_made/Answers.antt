use Rattle.xfs_render.specs.declared.wanted_slots.SlotWanted.{SlotWanted}
use Rattle.xfs_rebuild.specs.Names.{made_of}
use Rattle.xfs_rebuild.proofs.Counted.{made_end, made_next}
use Rattle.xfs_rebuild.proofs.due_files.add_made.Goals as goal

pub loop-slot-preserved : goal.loop-slot-preserved
loop-slot-preserved c =
    made_next (λ (w : SlotWanted). made_of w.ino w.base) c.args.slots.now c.loop-slot.slot-index c.slot-item.result c.loop-slot.files.items c.add_made_of.new.files.items _
    c.loop-slot-test.true c.slot-item.is c.in_ok-add_made_of.ensures c.loop-slot.invariant

pub returns : goal.returns
returns c = made_end (λ (w : SlotWanted). made_of w.ino w.base) c.args.slots.now c.loop-slot.slot-index c.loop-slot.files.items _ c.loop-slot-test.false c.loop-slot.invariant

use Rattle.std.proofs.Common.{ℕ, ◌+◌, ◌-◌, ◌++◌, refl, ap, ◌∙◌}
use Rattle.std.proofs.lemmas.Result.{IfOk-from_err}
use Rattle.xfs_geom.specs.Conversions.{inode_of}
use Rattle.xfs_geom.specs.Volumes.{volume_of}
use Rattle.xfs_request.specs.Slots.{block_slots, slot_listed}
use Rattle.xfs_request.proofs.Rows.{one_less, row_end, row_more}
use Rattle.xfs_request.proofs.slots.push_block.Goals as goal

pub loop-slot-preserved : goal.loop-slot-preserved
loop-slot-preserved c =
    let slot = c.loop-slot.slot in
    row_more (slot_listed (volume_of c.args.basis.now.g.now) c.args.basis.now.stamp.now c.args.basis.now.kept.now c.args.basis.now.slots.now) (inode_of (volume_of c.args.basis.now.g.now) c.args.block) c.loop-slot.slots.items c.push_slot.new.slots.items _ slot (8 - slot) (8 - (slot + 1))
    (one_less 8 slot c.loop-slot-test.true)
    (c.in_ok-push_slot.ensures ∙ ap (λ (ino : ℕ). c.loop-slot.slots.items ++ slot_listed (volume_of c.args.basis.now.g.now) c.args.basis.now.stamp.now c.args.basis.now.kept.now c.args.basis.now.slots.now ino) c.inode_of_slot.ensures.value)
    c.loop-slot.invariant

pub loop-slot-init : goal.loop-slot-init
loop-slot-init c = refl

pub inode_of_slot-requires : goal.inode_of_slot-requires
inode_of_slot-requires c = record { block = c.requires.inside; slot = c.loop-slot-test.true }

pub push_slot-requires : goal.push_slot-requires
push_slot-requires c = record { low = c.requires.low; order = c.requires.order }

pub returns : goal.returns
unfolding block_slots
returns c =
    row_end (slot_listed (volume_of c.args.basis.now.g.now) c.args.basis.now.stamp.now c.args.basis.now.kept.now c.args.basis.now.slots.now) (inode_of (volume_of c.args.basis.now.g.now) c.args.block)
    c.loop-slot.slots.items _ c.loop-slot.slot 8 c.loop-slot.slot c.loop-slot-test.false c.loop-slot.invariant

pub returns-in_err-push_slot : goal.returns-in_err-push_slot
returns-in_err-push_slot c = IfOk-from_err c.from_residual.result _ c.from_residual.ensures.0

use Rattle.std.proofs.Common.{ℕ, List, subst, sym}
use Rattle.xfs_geom.specs.Conversions.{inode_of}
use Rattle.xfs_geom.specs.Volumes.{volume_of}
use Rattle.xfs_render.specs.Clusters.{slot_in}
use Rattle.xfs_render.specs.Slots.{CanSlot, IsSlotDue}
use Rattle.xfs_render.proofs.Sectors.{parts_more}
use Rattle.xfs_render.proofs.clusters.put_cluster.Goals as goal

pub put_slot-requires-clause-can : goal.put_slot-requires-clause-can
put_slot-requires-clause-can c =
    subst (λ (ino : ℕ). CanSlot (volume_of c.args.g.now) c.args.slots.now ino (slot_in c.args.old.now c.loop-k.k)) (sym c.inode_of_slot-ino.ensures.value)
    (c.requires.can.each c.loop-k.k c.loop-k-test.true)

pub loop-k-preserved : goal.loop-k-preserved
loop-k-preserved c =
    let v = volume_of c.args.g.now in
    let P : ℕ → List ℕ → Type 0 = λ k slot. IsSlotDue v c.args.stamp.now.generation c.args.slots.now (inode_of v c.args.number k) (slot_in c.args.old.now k) slot in
    let here : P c.loop-k.k (slot_in c.put_slot.new.block c.loop-k.k) =
    subst (λ (ino : ℕ). IsSlotDue v c.args.stamp.now.generation c.args.slots.now ino (slot_in c.args.old.now c.loop-k.k) (slot_in c.put_slot.new.block c.loop-k.k))
    c.inode_of_slot-ino.ensures.value c.put_slot.ensures.due in
    record { each = parts_more P c.loop-k.block c.put_slot.new.block c.loop-k.k c.loop-k.invariant.each c.put_slot.ensures.keeps here }

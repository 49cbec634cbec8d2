use Rattle.std.proofs.Common.{◌≡◌, ℕ, true}
use borrow.Author.Count.{below_more, below_none}
use Rattle.xfs_geom.specs.Conversions.{inode_of}
use Rattle.xfs_geom.specs.Volumes.{volume_of}
use Rattle.xfs_render.specs.Clusters.{slot_in}
use Rattle.xfs_rebuild.specs.Changes.{can_change}
use Rattle.xfs_rebuild.proofs.Judged.{changes_as, judged, slot_inside}
use Rattle.xfs_rebuild.proofs.changes.can_change.Goals as goal

pub loop-k-init : goal.loop-k-init
loop-k-init c =
    let v = volume_of c.args.g.now in
    below_none (λ (k : ℕ). can_change v c.args.slots.now (inode_of v c.args.number k) (slot_in c.args.block.now k) ≡ true)

pub inode_of_slot-ino-requires : goal.inode_of_slot-ino-requires
inode_of_slot-ino-requires c = record { block = c.requires.inside; slot = c.loop-k-test.true }

pub part-requires : goal.part-requires
part-requires c = slot_inside c.loop-k.k _ c.loop-k-test.true c.requires.whole

pub can_change_slot-requires : goal.can_change_slot-requires
can_change_slot-requires c = record { slot = c.part.ensures.long; order = c.requires.order }

pub loop-k-preserved : goal.loop-k-preserved
loop-k-preserved c =
    let v = volume_of c.args.g.now in
    let k = c.loop-k.k in
    below_more (λ (k : ℕ). can_change v c.args.slots.now (inode_of v c.args.number k) (slot_in c.args.block.now k) ≡ true) k c.loop-k.invariant
    (changes_as v c.args.slots.now c.inode_of_slot-ino.result (inode_of v c.args.number k) c.part.result.now (slot_in c.args.block.now k) c.can_change_slot.result
    c.inode_of_slot-ino.ensures.value c.part.ensures.value c.can_change_slot.ensures c.if-not-can_change_slot.false)

pub returns-then-not-can_change_slot : goal.returns-then-not-can_change_slot
returns-then-not-can_change_slot c = λ is. absurd cc

pub returns : goal.returns
returns c = λ is. record { each = λ k low. c.loop-k.invariant k (judged k 8 c.loop-k.k low c.loop-k-test.false) }

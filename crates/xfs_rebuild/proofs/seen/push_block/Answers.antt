use Rattle.std.proofs.Common.{ℕ, ◌+◌, ◌-◌, ◌++◌, [], ◌∷◌, refl, ap, ◌∙◌}
use Rattle.std.proofs.lemmas.Result.{IfOk-from_err}
use Rattle.xfs_geom.specs.Conversions.{inode_of}
use Rattle.xfs_geom.specs.Volumes.{volume_of}
use Rattle.xfs_rebuild.proofs.Listed.{item_more, items_end, one_less}
use Rattle.xfs_rebuild.proofs.seen.push_block.Goals as goal

pub loop-slot-preserved : goal.loop-slot-preserved
loop-slot-preserved c =
    let slot = c.loop-slot.slot in
    item_more (inode_of (volume_of c.args.g.now) c.args.block) c.loop-slot.inodes.items c.push.new.self.items _ slot (8 - slot) (8 - (slot + 1))
    (one_less 8 slot c.loop-slot-test.true)
    (c.in_ok-push.ensures.items ∙ ap (λ (ino : ℕ). c.loop-slot.inodes.items ++ ino ∷ []) c.inode_of_slot.ensures.value)
    c.loop-slot.invariant

pub loop-slot-init : goal.loop-slot-init
loop-slot-init c = refl

pub inode_of_slot-requires : goal.inode_of_slot-requires
inode_of_slot-requires c = record { block = c.requires.inside; slot = c.loop-slot-test.true }

pub returns : goal.returns
returns c = items_end (inode_of (volume_of c.args.g.now) c.args.block) c.loop-slot.inodes.items _ c.loop-slot.slot 8 c.loop-slot.slot c.loop-slot-test.false c.loop-slot.invariant

pub returns-in_err-push : goal.returns-in_err-push
returns-in_err-push c = IfOk-from_err c.from_residual.result _ c.from_residual.ensures.0

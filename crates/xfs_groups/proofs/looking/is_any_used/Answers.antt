use Rattle.std.proofs.Common.{◌≡◌, ℕ, ◌+◌, Bool, true, false, sym, subst, ◌∙◌, arith}
use Rattle.std.proofs.lemmas.Bool.{or_from}
use Rattle.std.specs.List.{list_any, range_with_len}
use Rattle.xfs_geom.specs.Conversions.{inode_of}
use Rattle.xfs_geom.specs.Volumes.{volume_of}
use Rattle.xfs_image.specs.Candidates.{is_used_slot}
use Rattle.xfs_groups.proofs.Rows.{any_here, any_more}
use Rattle.xfs_groups.proofs.looking.is_any_used.Goals as goal

pub returns-then-is_used : goal.returns-then-is_used
returns-then-is_used c = λ image at.
    let v = volume_of c.args.g.now in
    let p : ℕ → Bool = λ slot. is_used_slot v image (inode_of v c.args.place slot) in
    let here : p (0 + c.loop-slot.slot) ≡ true = subst (λ (k : ℕ). p k ≡ true) (omega arith) (sym (c.is_used.ensures image at) ∙ c.if-is_used.true) in
    sym (any_here p 0 c.args.count c.loop-slot.slot (omega arith) here)

pub loop-slot-preserved : goal.loop-slot-preserved
loop-slot-preserved c = λ image at.
    let v = volume_of c.args.g.now in
    let p : ℕ → Bool = λ slot. is_used_slot v image (inode_of v c.args.place slot) in
    let here : p (0 + c.loop-slot.slot) ≡ false = subst (λ (k : ℕ). p k ≡ false) (omega arith) (sym (c.is_used.ensures image at) ∙ c.if-is_used.false) in
    any_more p 0 c.loop-slot.slot ∙ or_from (list_any p (range_with_len 0 c.loop-slot.slot)) (p (0 + c.loop-slot.slot)) (c.loop-slot.invariant image at) here

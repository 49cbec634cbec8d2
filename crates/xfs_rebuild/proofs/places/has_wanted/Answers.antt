use Rattle.std.proofs.Common.{◌≡◌, ℕ, ◌+◌, Bool, true, false, sym, subst, ◌∙◌, arith}
use Rattle.std.proofs.lemmas.Bool.{or_from}
use Rattle.std.specs.List.{list_any, range_with_len}
use Rattle.xfs_geom.specs.Volumes.{volume_of}
use Rattle.xfs_groups.proofs.Rows.{any_here, any_more}
use Rattle.xfs_rebuild.specs.Places.{has_wanted, is_slot_wanted}
use Rattle.xfs_rebuild.proofs.places.has_wanted.Goals as goal

pub returns-then-is_slot_wanted : goal.returns-then-is_slot_wanted
unfolding has_wanted
returns-then-is_slot_wanted c =
    let p : ℕ → Bool = is_slot_wanted (volume_of c.args.g.now) c.args.slots.now c.args.block in
    let here : p (0 + c.loop-k.k) ≡ true = subst (λ (k : ℕ). p k ≡ true) (omega arith) (sym c.is_slot_wanted.ensures ∙ c.if-is_slot_wanted.true) in
    sym (any_here p 0 8 c.loop-k.k (omega arith) here)

pub loop-k-preserved : goal.loop-k-preserved
loop-k-preserved c =
    let p : ℕ → Bool = is_slot_wanted (volume_of c.args.g.now) c.args.slots.now c.args.block in
    let here : p (0 + c.loop-k.k) ≡ false = subst (λ (k : ℕ). p k ≡ false) (omega arith) (sym c.is_slot_wanted.ensures ∙ c.if-is_slot_wanted.false) in
    any_more p 0 c.loop-k.k ∙ or_from (list_any p (range_with_len 0 c.loop-k.k)) (p (0 + c.loop-k.k)) c.loop-k.invariant here

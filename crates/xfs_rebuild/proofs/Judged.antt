-- What was judged of each slot of a block and of each block.
use Rattle.std.proofs.Common.{◌≡◌, ℕ, zero, suc, ◌+◌, ◌*◌, ◌<◌, ◌≤◌, true, Bool, List, [], ◌∷◌, Some, slice_get, slice_index_or, sym, ap₂, ◌∙◌, subst, arith}
use Rattle.xfs_geom.specs.Volumes.{Volume}
use Rattle.xfs_render.specs.declared.wanted_slots.SlotWanted.{SlotWanted}
use Rattle.xfs_rebuild.specs.Changes.{CanChange, can_change}

-- what stands at a place of a list
pub got : {A : Type 0} (xs : List A) (i : ℕ) (x d : A) → slice_get xs i ≡ Some x → slice_index_or xs i d ≡ x
got [] i x d e = absurd cc
got (y ∷ ys) zero x d e = cc
got (y ∷ ys) (suc i) x d e = got ys i x d e

-- a slot lies in its block
pub slot_inside : (k n : ℕ) → k < 8 → n ≡ 4096 → 512 * k + 512 ≤ n
slot_inside k n low long = omega (arith, low, long)

-- past the last, each is judged
pub judged : (k n i : ℕ) → k < n → n ≤ i → k < i
judged k n i low past = omega (arith, low, past)

-- what was judged of a slot by equal numbers and bytes
pub changes_as : (v : Volume) (slots : List SlotWanted) (found ino : ℕ) (part slot : List ℕ) (r : Bool) → found ≡ ino → part ≡ slot
    → r ≡ can_change v slots found part → r ≡ true → can_change v slots ino slot ≡ true
changes_as v slots found ino part slot r same equal is can = sym (ap₂ (can_change v slots) same equal) ∙ sym is ∙ can

-- what was judged of a block that stands in a bank
pub changed_at : (v : Volume) (slots : List SlotWanted) (number i : ℕ) (old : List (List ℕ)) (block : List ℕ) → slice_get old i ≡ Some block
    → CanChange v slots number block → CanChange v slots number (slice_index_or old i [])
changed_at v slots number i old block read can = subst (CanChange v slots number) (sym (got old i block [] read)) can

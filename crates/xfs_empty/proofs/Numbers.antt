-- Numbers and parts of a sector through writes beside them.
use Rattle.std.proofs.Common.{◌≡◌, ℕ, ◌+◌, ◌-◌, ◌≤◌, ◌<◌, ◌⊎◌, inl, inr, zero, suc, Bool, true, false, ◌||◌, leb, List, [], ◌∷◌, length, get_or, replicate, arith, refl, ◌∙◌}
use Rattle.std.proofs.lemmas.Bool.{leb-true}
use Rattle.std.proofs.lemmas.List.{take-replicate, drop-replicate}
use Rattle.std.specs.List.{list_all}
use Rattle.xfs_geom.proofs.Votes.{left, right}
use Rattle.xfs_word.specs.Field.{field_of, part_of, Beside, KeepsBeside}
use Rattle.xfs_empty.specs.Supers.{HasNumbers, PlacedNumber}

-- the bytes of a number lie beside some others
abbrev pub lies_beside : ℕ → ℕ → PlacedNumber → Bool
lies_beside at width n = leb (n.offset + n.width) at || leb (at + width) n.offset

either : (a b : Bool) → (a || b) ≡ true → (a ≡ true) ⊎ (b ≡ true)
either true b h = inl refl
either false b h = inr h

beside : (at width : ℕ) (n : PlacedNumber) → lies_beside at width n ≡ true → Beside at width n.offset n.width
beside at width n h =
    elim (either (leb (n.offset + n.width) at) (leb (at + width) n.offset) h) [ inl p ↦ inl (leb-true _ _ p) | inr p ↦ inr (leb-true _ _ p) ]

-- numbers beside a write stay
pub still : (old new : List ℕ) (at width : ℕ) (ns : List PlacedNumber) → KeepsBeside old new at width
    → list_all (lies_beside at width) ns ≡ true → HasNumbers old ns → HasNumbers new ns
still old new at width [] keeps all has = tt
still old new at width (n ∷ ns) keeps all has = (
  keeps n.offset n.width (beside at width n (left _ _ all)) ∙ has.0,
  still old new at width ns keeps (right (lies_beside at width n) _ all) has.1,
)

-- one of the numbers
pub read : (s : List ℕ) (ns : List PlacedNumber) → HasNumbers s ns → (k : ℕ) (d : PlacedNumber) → k < length ns
    → field_of s (get_or ns k d).offset (get_or ns k d).width ≡ (get_or ns k d).value
read s [] has k d low = absurd (omega arith)
read s (n ∷ ns) has zero d low = has.0
read s (n ∷ ns) has (suc k) d low = read s ns has.1 k d (omega arith)

-- a part of zeros is zeros
pub part_of_zeros : (n at width : ℕ) → at + width ≤ n → part_of (replicate n 0) at width ≡ replicate width 0
unfolding part_of
part_of_zeros n at width inside =
    rw drop-replicate (take-replicate width (n - at) 0 (omega arith))

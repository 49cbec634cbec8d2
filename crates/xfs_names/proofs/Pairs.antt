-- Pairs by their first number.
use Rattle.std.proofs.Common.{◌≡◌, ℕ, ◌+◌, ◌<◌, ◌≤◌, inl, inr, cond, List, [], ◌∷◌, length, zero, suc, refl, sym, ap, ◌∙◌, arith, None, Some, slice_index_or}
use Rattle.std.specs.List.{HoldsAt}
use Rattle.std.specs.List.Sorted.{IsNonDecreasingBy, IsPartitionPoint}
use Rattle.std.specs.Ordering.{nat_cmp, ordering_index}
use Rattle.std.specs.declared.cmp.Ordering.TheVariants.{Less, Equal, Greater}
use Rattle.std.proofs.lemmas.Bool.{cases_lt}
use Rattle.std.proofs.lemmas.Bool.Decides.{nat_tests}
use Rattle.std.proofs.lemmas.Cmp.{ranked}
use Rattle.std.proofs.lemmas.List.Sorted.{IsNonDecreasingBy-from_default}
use Rattle.xfs_links.proofs.Tests.{same_test, other_test}
use Rattle.xfs_names.specs.Pairs.{PairsAscend, parent_among}

abbrev pub first_at : List (ℕ × ℕ) → ℕ → ℕ
first_at ps k = (slice_index_or ps k (0, 0)).0

firsts_low : (low : ℕ) (ps : List (ℕ × ℕ)) (k : ℕ) → PairsAscend low ps → k < length ps → low ≤ first_at ps k
firsts_low low [] k up h = absurd (omega arith)
firsts_low low (p ∷ ps) zero up h = up.0
firsts_low low (p ∷ ps) (suc k) up h = let next : p.0 + 1 ≤ first_at ps k = firsts_low (p.0 + 1) ps k up.1 (omega arith) in omega (arith, up.0)

firsts_rise : (low : ℕ) (ps : List (ℕ × ℕ)) (i j : ℕ) → PairsAscend low ps → i ≤ j → j < length ps → first_at ps i ≤ first_at ps j
firsts_rise low [] i j up le h = absurd (omega arith)
firsts_rise low (p ∷ ps) zero zero up le h = omega arith
firsts_rise low (p ∷ ps) zero (suc j) up le h = let next : p.0 + 1 ≤ first_at ps j = firsts_low (p.0 + 1) ps j up.1 (omega arith) in omega arith
firsts_rise low (p ∷ ps) (suc i) zero up le h = absurd (omega arith)
firsts_rise low (p ∷ ps) (suc i) (suc j) up le h = firsts_rise (p.0 + 1) ps i j up.1 (omega arith) (omega arith)

here : (low : ℕ) (ps : List (ℕ × ℕ)) (k d : ℕ) → PairsAscend low ps → k < length ps → first_at ps k ≡ d → Some (slice_index_or ps k (0, 0)).1 ≡ parent_among ps d
here low [] k d up h e = absurd (omega arith)
here low (p ∷ ps) zero d up h e = sym (ap (λ t. cond t (Some p.1) (parent_among ps d)) (same_test p.0 d e))
here low (p ∷ ps) (suc k) d up h e =
    let next : p.0 + 1 ≤ first_at ps k = firsts_low (p.0 + 1) ps k up.1 (omega arith) in
    here (p.0 + 1) ps k d up.1 (omega arith) e ∙ sym (ap (λ t. cond t (Some p.1) (parent_among ps d)) (other_test p.0 d (λ same. absurd (omega arith))))

pub pair_found : (ps : List (ℕ × ℕ)) (d k : ℕ) → PairsAscend 0 ps → k < length ps → HoldsAt (λ (p : ℕ × ℕ). nat_cmp p.0 d ≡ Equal) ps k → Some (slice_index_or ps k (0, 0)).1 ≡ parent_among ps d
pair_found ps d k up h e = here 0 ps k d up h (ranked _ d _ (sym (e (0, 0))))

absent : (ps : List (ℕ × ℕ)) (d : ℕ) → ((k : ℕ) → k < length ps → first_at ps k ≡ d → ⊥) → None ≡ parent_among ps d
absent [] d h = refl
absent (p ∷ ps) d h = absent ps d (λ k l. h (suc k) (omega arith)) ∙ sym (ap (λ t. cond t (Some p.1) (parent_among ps d)) (other_test p.0 d (h 0 (omega arith))))

pub pair_missing : (ps : List (ℕ × ℕ)) (d k : ℕ) → PairsAscend 0 ps
    → (IsNonDecreasingBy (λ (p : ℕ × ℕ). ordering_index (nat_cmp p.0 d)) ps → IsPartitionPoint (λ (p : ℕ × ℕ). nat_cmp p.0 d ≡ Less) (λ (p : ℕ × ℕ). nat_cmp p.0 d ≡ Greater) ps k) → None ≡ parent_among ps d
pair_missing ps d k up parted = absent ps d off
  where
    rise : IsNonDecreasingBy (λ (p : ℕ × ℕ). ordering_index (nat_cmp p.0 d)) ps
    rise = IsNonDecreasingBy-from_default (λ (p : ℕ × ℕ). ordering_index (nat_cmp p.0 d)) ps (0, 0) (λ i j le inside.
        let up : first_at ps i ≤ first_at ps j = firsts_rise 0 ps i j up le inside in
        grind (arith, nat_tests))

    below : (q : ℕ) → q < k → q < length ps → first_at ps q < d
    below q l h = ranked _ d _ (sym ((parted rise).0 q (0, 0) (omega arith) l))

    above : (q : ℕ) → k ≤ q → q < length ps → d < first_at ps q
    above q g h = ranked _ d _ (sym ((parted rise).1 q (0, 0) g h))

    off : (q : ℕ) → q < length ps → first_at ps q ≡ d → ⊥
    off q h e = elim (cases_lt q k) [
      | inl l ↦ let less : first_at ps q < d = below q l h in omega arith
      | inr g ↦ let more : d < first_at ps q = above q g h in omega arith
    ]

-- Pairs that stand in a block.
use Rattle.std.proofs.Common.{◌≡◌, ℕ, suc, zero, ◌+◌, ◌*◌, ◌<◌, ◌≤◌, List, [], ◌∷◌, ◌++◌, map, length, take, get_or, refl, sym, ◌∙◌, ap₂, inl, arith}
use Rattle.std.specs.List.{range_with_len}
use Rattle.std.proofs.lemmas.List.{take_more}
use Rattle.std.proofs.lemmas.List.FromFn.{map-range_with_len_more}
use Rattle.xfs_word.specs.Field.{field_of, KeepsBeside}
use Rattle.xfs_dirindex.specs.declared.pairs.Pair.{Pair}
use Rattle.xfs_dirindex.specs.Pairs.{pair_at, pairs_at}

-- a function of numbers that agrees with another on some of them
pub map-range_same : {X : Type 0} (f g : ℕ → X) (a n : ℕ) → ((k : ℕ) → a ≤ k → k < a + n → f k ≡ g k) → map f (range_with_len a n) ≡ map g (range_with_len a n)
map-range_same f g a zero same = refl
map-range_same f g a (suc n) same =
    ap₂ ◌∷◌ (same a (omega arith) (omega arith)) (map-range_same f g (a + 1) n (λ k low high. same k (omega arith) (omega arith)))

-- pairs stay where their numbers stay
pub pairs_at-same : (old new : List ℕ) (at n : ℕ) → ((a : ℕ) → at ≤ a → a + 4 ≤ at + 8 * n → field_of new a 4 ≡ field_of old a 4)
    → pairs_at new at n ≡ pairs_at old at n
unfolding pairs_at
pairs_at-same old new at n same =
    map-range_same (λ k. pair_at new (at + 8 * k)) (λ k. pair_at old (at + 8 * k)) 0 n
    (λ k low high. ap₂ (λ (h a : ℕ). let p : Pair = record { hash = h; address = a } in p)
    (same (at + 8 * k) (omega arith) (omega arith)) (same (at + 8 * k + 4) (omega arith) (omega arith)))

-- one more pair stands behind
pub pairs_at-more : (old new : List ℕ) (at k : ℕ) (pairs : List Pair) (d : Pair) → k < length pairs → pairs_at old at k ≡ take k pairs
    → KeepsBeside old new (at + 8 * k) 8 → pair_at new (at + 8 * k) ≡ get_or pairs k d → pairs_at new at (k + 1) ≡ take (k + 1) pairs
unfolding pairs_at
pairs_at-more old new at k pairs d inside were keeps put =
    map-range_with_len_more (λ j. pair_at new (at + 8 * j)) 0 k k (omega arith)
    ∙ (ap₂ (λ (xs : List Pair) (x : Pair). xs ++ x ∷ [])
    (pairs_at-same old new at k (λ a low high. keeps a 4 (inl (omega arith))) ∙ were) put
    ∙ sym (take_more pairs k d inside))

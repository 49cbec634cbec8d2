-- When blocks meet a set.
use Rattle.std.proofs.Common.{◌≡◌, ℕ, zero, suc, Bool, true, false, ◌+◌, ◌≤◌, ◌<◌, inl, inr, refl, subst, arith}
use Rattle.std.proofs.lemmas.Bool.{cases_eq, or_parts, or_from, true_from_ne_false, both_ways}
use Rattle.xfs_collections.specs.Blocks.{meets}

-- where none of the blocks is in the set, they do not meet it
pub meets_none : (set : ℕ → Bool) (start count : ℕ) → ((b : ℕ) → start ≤ b → b < start + count → set b ≡ false) → meets set start count ≡ false
unfolding meets
meets_none set start zero none = refl
meets_none set start (suc count) none =
    or_from (set start) (meets set (start + 1) count) (none start (omega arith) (omega arith))
    (meets_none set (start + 1) count (λ b low high. none b (omega (arith, low)) (omega (arith, high))))

-- what does not meet the set has no block of it
pub unmet : (set : ℕ → Bool) (start count : ℕ) → meets set start count ≡ false → (b : ℕ) → start ≤ b → b < start + count → set b ≡ false
unfolding meets
unmet set start zero none b low high = absurd (omega (arith, low, high))
unmet set start (suc count) none b low high =
    let parts = or_parts (set start) (meets set (start + 1) count) none in
    elim (cases_eq start b) [
      | inl same ↦ subst (λ (x : ℕ). set x ≡ false) same parts.0
      | inr other ↦ unmet set (start + 1) count parts.1 b (omega (arith, low, other)) (omega (arith, high))
    ]

-- a block of the set meets it
pub meets_some : (set : ℕ → Bool) (start count b : ℕ) → start ≤ b → b < start + count → set b ≡ true → meets set start count ≡ true
meets_some set start count b low high some =
    true_from_ne_false (meets set start count) (λ none. both_ways (set b) (unmet set start count none b low high) some)

-- Blocks whose eight parts are written one after the other.
use Rattle.std.proofs.Common.{◌≡◌, ℕ, ◌+◌, ◌*◌, ◌<◌, List, inl, inr, sym, subst, arith}
use Rattle.std.proofs.lemmas.Bool.{cases_lt}
use Rattle.xfs_word.specs.Field.{part_of, KeepsParts}

-- one part more is as it should be
pub parts_more : (P : ℕ → List ℕ → Type 0) (old new : List ℕ) (k : ℕ) → ((j : ℕ) → j < k → P j (part_of old (512 * j) 512)) → KeepsParts old new (512 * k) 512
    → P k (part_of new (512 * k) 512) → (j : ℕ) → j < k + 1 → P j (part_of new (512 * j) 512)
parts_more P old new k before keeps here = λ j low. elim (cases_lt j k) [
  | inl early ↦ subst (P j) (sym (keeps (512 * j) 512 (inl (omega arith)))) (before j early)
  | inr late ↦
      let same : k ≡ j = omega arith in
      subst (λ (n : ℕ). P n (part_of new (512 * n) 512)) same here
]

-- The first of some numbers in a row that pass a test.
use Rattle.std.proofs.Common.{◌≡◌, ℕ, zero, suc, ◌+◌, ◌≤◌, ◌<◌, inl, inr, Bool, true, false, cond, Some, None, refl, ap, ◌∙◌, arith, sym}
use Rattle.std.specs.List.{find, range_with_len}
use Rattle.std.proofs.lemmas.Bool.{cases_lt}

pub no_some : {A : Type 0} (x : A) → Some x ≡ None → ⊥
no_some x e = cc

-- where none is found, none passes
pub none_passes : (p : ℕ → Bool) (a n : ℕ) → find p (range_with_len a n) ≡ None → (k : ℕ) → a ≤ k → k < a + n → p k ≡ false
none_passes p a zero none k low high = absurd (omega (arith, low, high))
none_passes p a (suc n) none k low high = by_case (p a) refl none (λ rest above. none_passes p (a + 1) n rest k above (omega (arith, high)))
  where
    by_case : (b : Bool) → p a ≡ b → cond b (Some a) (find p (range_with_len (a + 1) n)) ≡ None
        → (find p (range_with_len (a + 1) n) ≡ None → a + 1 ≤ k → p k ≡ false) → p k ≡ false
    by_case true e h behind = absurd (no_some a h)
    by_case false e h behind =
        elim (cases_lt a k) [
          | inl above ↦ behind h (omega (arith, above))
          | inr upto ↦ let same : k ≡ a = omega (arith, low, upto) in ap p same ∙ e
        ]

-- where none passes, none is found
pub none_found : (p : ℕ → Bool) (a n : ℕ) → ((k : ℕ) → a ≤ k → k < a + n → p k ≡ false) → find p (range_with_len a n) ≡ None
none_found p a zero none = refl
none_found p a (suc n) none =
    let first : p a ≡ false = none a (omega arith) (omega arith) in
    rw first (none_found p (a + 1) n (λ k low high. none k (omega (arith, low)) (omega (arith, high))))

one_number : (x y : ℕ) → Some x ≡ Some y → x ≡ y
one_number x y e = cc

no_none : (x : ℕ) → None ≡ Some x → ⊥
no_none x e = cc

-- what is found is the first that passes
pub record IsFirst (p : ℕ → Bool) (a end k : ℕ) : Type 0 where
  pub passes : p k ≡ true
  pub low : a ≤ k
  pub high : k < end
  pub least : (j : ℕ) → a ≤ j → j < k → p j ≡ false

pub found_first : (p : ℕ → Bool) (a n k : ℕ) → find p (range_with_len a n) ≡ Some k → IsFirst p a (a + n) k
found_first p a zero k found = absurd (no_none k found)
found_first p a (suc n) k found = by_case (p a) refl found (λ rest. found_first p (a + 1) n k rest)
  where
    by_case : (b : Bool) → p a ≡ b → cond b (Some a) (find p (range_with_len (a + 1) n)) ≡ Some k
        → (find p (range_with_len (a + 1) n) ≡ Some k → IsFirst p (a + 1) (a + 1 + n) k) → IsFirst p a (a + suc n) k
    by_case true e h behind =
        let same : a ≡ k = one_number a k h in
        record {
          passes = ap p (sym same) ∙ e;
          low = omega (arith, same);
          high = omega (arith, same);
          least = λ j low high. absurd (omega (arith, same, low, high));
        }
    by_case false e h behind =
        let rest = behind h in
        record {
          passes = rest.passes;
          low = omega (arith, rest.low);
          high = omega (arith, rest.high);
          least = λ j low high.
              elim (cases_lt a j) [
                | inl above ↦ rest.least j (omega (arith, above)) high
                | inr upto ↦ let same : j ≡ a = omega (arith, low, upto) in ap p same ∙ e
              ];
        }

-- The first of some places at which a law is broken.
use Rattle.std.proofs.Common.{◌≡◌, ◌≢◌, ℕ, zero, suc, Bool, true, false, ◌+◌, ◌≤◌, ◌<◌, inl, inr, ◌==◌, if◌then◌else◌, List, [], ◌∷◌, ◌++◌, map, Some, None, refl, sym, ◌∙◌, ap, subst, arith}
use Rattle.std.proofs.lemmas.Bool.{cases_lt, eq-eqb, eqb-true, true≢false}
use Rattle.std.specs.List.{range_with_len}
use Rattle.xfs_volume.specs.declared.findings.Law.{Law}
use Rattle.xfs_volume.specs.Laws.{first_broken}
use Rattle.xfs_volume.proofs.First.{first_empty}

-- a law that is broken is not kept
pub not_equal : (m n : ℕ) → m ≢ n → (m == n) ≡ false
not_equal m n differ = by_case (m == n) refl
  where
    by_case : (t : Bool) → (m == n) ≡ t → t ≡ false
    by_case true e = absurd (differ (eqb-true m n e))
    by_case false e = refl

-- what stands there first
pub first_next : (l : Law) (ls : List Law) → l.held ≡ l.due → first_broken (l ∷ ls) ≡ first_broken ls
unfolding first_broken
first_next l ls same = let kept : (l.held == l.due) ≡ true = eq-eqb l.held l.due same in rw kept refl

pub first_here : (l : Law) (ls : List Law) → l.held ≢ l.due → first_broken (l ∷ ls) ≡ Some l
unfolding first_broken
first_here l ls differ = let broken : (l.held == l.due) ≡ false = not_equal l.held l.due differ in rw broken refl

-- no place is broken
pub none_broken : (f : ℕ → Law) (a n : ℕ) → ((b : ℕ) → a ≤ b → b < a + n → (f b).held ≡ (f b).due) → first_broken (map f (range_with_len a n)) ≡ None
none_broken f a zero kept = first_empty
none_broken f a (suc n) kept =
    first_next (f a) (map f (range_with_len (a + 1) n)) (kept a (omega arith) (omega arith))
    ∙ none_broken f (a + 1) n (λ b low high. kept b (omega (arith, low)) (omega (arith, high)))

-- the least place that is broken
pub least_broken : (f : ℕ → Law) (a n b : ℕ) → a ≤ b → b < a + n → (f b).held ≢ (f b).due → ((c : ℕ) → a ≤ c → c < b → (f c).held ≡ (f c).due)
    → first_broken (map f (range_with_len a n)) ≡ Some (f b)
least_broken f a zero b low high differ kept = absurd (omega (arith, low, high))
least_broken f a (suc n) b low high differ kept =
    elim (cases_lt a b) [
      | inl before ↦
          first_next (f a) (map f (range_with_len (a + 1) n)) (kept a (omega arith) before)
          ∙ least_broken f (a + 1) n b (omega (arith, before)) (omega (arith, high)) differ (λ c from to. kept c (omega (arith, from)) to)
      | inr not_before ↦
          let here : a ≡ b = omega (arith, low, not_before) in
          first_here (f a) (map f (range_with_len (a + 1) n)) (subst (λ (x : ℕ). (f x).held ≢ (f x).due) (sym here) differ) ∙ ap (λ (x : ℕ). Some (f x)) here
    ]

-- where no place is broken, each is kept
pub each_kept : (f : ℕ → Law) (a n : ℕ) → first_broken (map f (range_with_len a n)) ≡ None → (b : ℕ) → a ≤ b → b < a + n → (f b).held ≡ (f b).due
each_kept f a zero none b low high = absurd (omega (arith, low, high))
each_kept f a (suc n) none b low high = by_case ((f a).held == (f a).due) refl (each_kept f (a + 1) n)
  where
    rest : List Law
    rest = map f (range_with_len (a + 1) n)

    by_case : (t : Bool) → ((f a).held == (f a).due) ≡ t
        → (first_broken (map f (range_with_len (a + 1) n)) ≡ None → (b : ℕ) → a + 1 ≤ b → b < a + 1 + n → (f b).held ≡ (f b).due) → (f b).held ≡ (f b).due
    by_case true e others =
        let same = eqb-true (f a).held (f a).due e in
        elim (cases_lt a b) [
          | inl before ↦ others (sym (first_next (f a) rest same) ∙ none) b (omega (arith, before)) (omega (arith, high))
          | inr not_before ↦ let here : a ≡ b = omega (arith, low, not_before) in subst (λ (x : ℕ). (f x).held ≡ (f x).due) here same
        ]
    by_case false e others =
        let broken = first_here (f a) rest (λ same. true≢false (sym (eq-eqb (f a).held (f a).due same) ∙ e)) in
        let both : Some (f a) ≡ None = sym broken ∙ none in
        absurd (cc)

-- The first of the places where two lists differ, as a law.
use Rattle.std.proofs.Common.{◌≡◌, ◌==◌, ℕ, ◌+◌, List, [], ◌∷◌, ◌<◌, ◌≤◌, length, map, filter, drop, get_or, Bool, Option, None, if◌then◌else◌, sym, ap, ap₂, ◌∙◌, add-one, drop-cons, eq-eqb, ne_eqb}
use Rattle.std.proofs.lemmas.Bool.{cond-true, cond-false}
use Rattle.std.proofs.lemmas.List.{drop_all}
use Rattle.xfs_volume.specs.declared.findings.Law.{Law}
use Rattle.xfs_volume.specs.Laws.{first_broken, first_difference, law_at}

-- where nothing differs, the law is kept
pub kept : (law place : ℕ) (difference : ℕ × ℕ) → difference ≡ (0, 0) → first_broken (law_at law place difference.0 difference.1 ∷ []) ≡ None
unfolding first_broken
kept law place difference e = ap (λ (d : ℕ × ℕ). first_broken (law_at law place d.0 d.1 ∷ [])) e

-- past the end of a list nothing differs
pub none_left : {X : Type 0} (number : X → ℕ) (due : X → X) (xs : List X) (i : ℕ) {whole : ℕ × ℕ} → length xs ≤ i
    → first_difference (map number (drop i xs)) (map number (map due (drop i xs))) ≡ whole → whole ≡ (0, 0)
none_left number due xs i {whole} end left = sym left ∙ ap (λ ys. first_difference (map number ys) (map number (map due ys))) (drop_all i xs end)

pub none_left_of : {X : Type 0} (number : X → ℕ) (test : X → Bool) (xs ys : List X) (i j : ℕ) {whole : ℕ × ℕ} → length xs ≤ i → length ys ≤ j
    → first_difference (map number (drop i xs)) (map number (filter test (drop j ys))) ≡ whole → whole ≡ (0, 0)
none_left_of number test xs ys i j {whole} end_x end_y left =
    sym left
    ∙ (ap (λ zs. first_difference (map number zs) (map number (filter test (drop j ys)))) (drop_all i xs end_x)
    ∙ ap (λ zs. first_difference (map number []) (map number (filter test zs))) (drop_all j ys end_y))

-- a law at the place of the first difference
pub told : (law place : ℕ) {held due h d : ℕ} {whole : ℕ × ℕ} {result : Option Law} → held ≡ h → due ≡ d → whole ≡ (h, d)
    → result ≡ first_broken (law_at law place held due ∷ []) → result ≡ first_broken (law_at law place whole.0 whole.1 ∷ [])
told law place held_is due_is whole_is is =
    is ∙ (ap₂ (λ (x y : ℕ). first_broken (law_at law place x y ∷ [])) held_is due_is
    ∙ ap (λ (p : ℕ × ℕ). first_broken (law_at law place p.0 p.1 ∷ [])) (sym whole_is))

-- one number of two lists
module _ (held due : ℕ) (held_rest due_rest : List ℕ) {whole : ℕ × ℕ} (left : (if held == due then first_difference held_rest due_rest else (held, due)) ≡ whole) where
  pub same_here : held ≡ due → first_difference held_rest due_rest ≡ whole
  same_here same = sym (cond-true (held == due) (first_difference held_rest due_rest) (held, due) (eq-eqb held due same)) ∙ left

  pub differs_here : (held ≡ due → ⊥) → whole ≡ (held, due)
  differs_here other = sym left ∙ cond-false (held == due) (first_difference held_rest due_rest) (held, due) (ne_eqb held due other)

module _ {X : Type 0} (number : X → ℕ) (due : X → X) (xs : List X) (i : ℕ) {whole : ℕ × ℕ}
    (left : first_difference (map number (drop i xs)) (map number (map due (drop i xs))) ≡ whole)
    (d : X) (inside : i < length xs) where
  from_here : first_difference (map number (get_or xs i d ∷ drop (i + 1) xs)) (map number (map due (get_or xs i d ∷ drop (i + 1) xs))) ≡ whole
  from_here =
      let split : drop i xs ≡ get_or xs i d ∷ drop (i + 1) xs = drop-cons xs i d inside ∙ (λ k. get_or xs i d ∷ drop (sym (add-one i) k) xs) in
      ap (λ (ys : List X). first_difference (map number ys) (map number (map due ys))) (sym split) ∙ left

  pub same_more : number (get_or xs i d) ≡ number (due (get_or xs i d)) → first_difference (map number (drop (i + 1) xs)) (map number (map due (drop (i + 1) xs))) ≡ whole
  same_more same =
      same_here (number (get_or xs i d)) (number (due (get_or xs i d))) (map number (drop (i + 1) xs)) (map number (map due (drop (i + 1) xs))) from_here same

  pub differs : (number (get_or xs i d) ≡ number (due (get_or xs i d)) → ⊥) → whole ≡ (number (get_or xs i d), number (due (get_or xs i d)))
  differs other =
      differs_here (number (get_or xs i d)) (number (due (get_or xs i d))) (map number (drop (i + 1) xs)) (map number (map due (drop (i + 1) xs))) from_here other

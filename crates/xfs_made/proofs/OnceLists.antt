-- Numbers that stand once in a list.
use Rattle.std.proofs.Common.{◌≡◌, ℕ, suc, ◌+◌, ◌≤◌, ◌<◌, ◌⊎◌, inl, inr, Bool, not, ◌==◌, if◌then◌else◌, List, [], ◌∷◌, ◌++◌, map, get_or, refl, ap, subst, arith, map-id}
use Rattle.std.specs.List.{All, AllPairs, count_by, filter, range_with_len}
use Rattle.std.proofs.lemmas.Bool.{cases_eq, ne_eqb}
use Rattle.std.proofs.lemmas.List.Elements.{All-cons, All-head, All-nil, All-tail}
use Rattle.std.proofs.lemmas.List.Filters.{sum_by-filter_both}
use Rattle.std.proofs.lemmas.List.FromFn.{get_or-map-range_with_len, length-map-range_with_len}
use Rattle.std.proofs.lemmas.List.Sums.{count_by-le-length, sum_by-append, sum_by-cons}
use Rattle.xfs_render.specs.Plans.{IsOnce}
use Rattle.xfs_made.proofs.RowLists.{all_items}

abbrev one_if : Bool → ℕ
one_if t = if t then 1 else 0

-- how often a number stands in a list
abbrev pub counted : ℕ → List ℕ → ℕ
counted at xs = count_by (λ (o : ℕ). o == at) xs

counted_cons : (at x : ℕ) (xs : List ℕ) → counted at (x ∷ xs) ≡ one_if (x == at) + counted at xs
counted_cons at x xs = sum_by-cons (λ (o : ℕ). one_if (o == at)) x xs

pub counted_append : (at : ℕ) (xs ys : List ℕ) → counted at (xs ++ ys) ≡ counted at xs + counted at ys
counted_append at xs ys = sum_by-append (λ (o : ℕ). one_if (o == at)) xs ys

-- what holds of all numbers of a list holds of each that is counted there
held_more : (P : ℕ → Type 0) (x : ℕ) (xs : List ℕ) (at : ℕ) → P x → (counted at xs ≡ 0) ⊎ P at → (counted at (x ∷ xs) ≡ 0) ⊎ P at
held_more P x xs at here (inl none) = elim (cases_eq x at) [
  | inl same ↦ inr (subst P same here)
  | inr other ↦
      let first : one_if (x == at) ≡ 0 = ap one_if (ne_eqb x at other) in
      inl (omega (arith, counted_cons at x xs, first, none))
]
held_more P x xs at here (inr there) = inr there

held : (P : ℕ → Type 0) (xs : List ℕ) (at : ℕ) → All P xs → (counted at xs ≡ 0) ⊎ P at
held P [] at all = inl refl
held P (x ∷ xs) at all = held_more P x xs at (All-head P x xs all) (held P xs at (All-tail P x xs all))

-- two lists of which a test tells the numbers apart
pub joined : (P : ℕ → Type 0) (xs ys : List ℕ) → IsOnce xs → IsOnce ys → All P xs → All (λ n. P n → ⊥) ys → IsOnce (xs ++ ys)
joined P xs ys first second pass fail =
    record { each = λ at. at_most at (held P xs at pass) (held (λ n. P n → ⊥) ys at fail) }
  where
    at_most : (at : ℕ) → (counted at xs ≡ 0) ⊎ P at → (counted at ys ≡ 0) ⊎ (P at → ⊥) → counted at (xs ++ ys) ≤ 1
    at_most at (inl none) other = omega (arith, counted_append at xs ys, none, second.each at)
    at_most at (inr is) (inl none) = omega (arith, counted_append at xs ys, none, first.each at)
    at_most at (inr is) (inr isnt) = absurd (isnt is)

-- numbers that ascend
pub ascend_once : (xs : List ℕ) → AllPairs (λ x y. x < y) xs → IsOnce xs
ascend_once [] up = record { each = λ at. omega arith }
ascend_once (x ∷ xs) up =
    joined (λ n. n ≡ x) (x ∷ []) xs (record { each = λ at. count_by-le-length (λ (o : ℕ). o == at) (x ∷ []) })
    (ascend_once xs (λ i j d before low. up (suc i) (suc j) d (omega (arith, before)) (omega (arith, low))))
    (All-cons (λ n. n ≡ x) x [] refl (All-nil (λ n. n ≡ x)))
    (λ k d low same. let above = up 0 (suc k) d (omega arith) (omega (arith, low)) in absurd (omega (arith, above, same)))

pub rising_once : (f : ℕ → ℕ) (a n : ℕ) → ((i j : ℕ) → i < j → f i < f j) → IsOnce (map f (range_with_len a n))
rising_once f a n up =
    ascend_once (map f (range_with_len a n)) (λ i j d before low.
    let few : j < n = omega (arith, low, length-map-range_with_len f a n) in
    let first : get_or (map f (range_with_len a n)) i d ≡ f (a + i) = get_or-map-range_with_len f a n i (a + i) d (omega (arith, before, few)) refl in
    let second : get_or (map f (range_with_len a n)) j d ≡ f (a + j) = get_or-map-range_with_len f a n j (a + j) d few refl in
    let less : f (a + i) < f (a + j) = up (a + i) (a + j) (omega (arith, before)) in
    omega (arith, first, second, less))

pub range_once : (a n : ℕ) → IsOnce (range_with_len a n)
range_once a n = subst IsOnce (map-id (range_with_len a n)) (rising_once (λ (x : ℕ). x) a n (λ i j less. less))

-- what holds of numbers in a row
pub all_range : (P : ℕ → Type 0) (a n : ℕ) → ((k : ℕ) → a ≤ k → k < a + n → P k) → All P (range_with_len a n)
all_range P a n each = subst (All P) (map-id (range_with_len a n)) (all_items P (λ (x : ℕ). x) a n each)

-- some numbers that are parted by a test, in two lists
pub in_parts : (test : ℕ → Bool) (trees places log : List ℕ) → IsOnce (trees ++ (places ++ log))
    → IsOnce ((trees ++ filter test places) ++ (filter (λ place. not (test place)) places ++ log))
in_parts test trees places log once = record {
  each = λ at.
      let new = filter test places in
      let old = filter (λ place. not (test place)) places in
      let parted : counted at new + counted at old ≡ counted at places =
      sum_by-filter_both test (λ place. not (test place)) (λ x. refl) (λ (o : ℕ). one_if (o == at)) places in
      let before = counted_append at trees (places ++ log) in
      let both = counted_append at places log in
      let whole = counted_append at (trees ++ new) (old ++ log) in
      let fresh = counted_append at trees new in
      let rest = counted_append at old log in
      omega (arith, once.each at, parted, before, both, whole, fresh, rest);
}

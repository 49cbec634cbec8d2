-- Lists of numbers that are taken group by group.
use Rattle.std.proofs.Common.{◌≡◌, ℕ, zero, suc, ◌+◌, ◌==◌, ◌≤◌, ◌<◌, ◌⊎◌, inl, inr, Bool, true, false, cond, List, [], ◌∷◌, ◌++◌, map, arith, refl, ap, ap₂, ◌∙◌, append_assoc}
use Rattle.std.specs.List.{filter, flat_map, range_with_len}
use Rattle.std.proofs.lemmas.Bool.{cases_lt, eq-eqb, ne_eqb}

-- what is made of numbers in a row, and of those that follow
pub map_range_on : (f : ℕ → ℕ) (a m b n k : ℕ) → b ≡ a + m → k ≡ m + n → map f (range_with_len a m) ++ map f (range_with_len b n) ≡ map f (range_with_len a k)
map_range_on f a zero b n k next all =
    let start : b ≡ a = omega (arith, next) in
    let count : k ≡ n = omega (arith, all) in
    rw (start, count) refl
map_range_on f a (suc m) b n k next all =
    let count : k ≡ suc (m + n) = omega (arith, all) in
    rw count (ap (λ (xs : List ℕ). f a ∷ xs) (map_range_on f (a + 1) m b n (m + n) (omega (arith, next)) refl))

-- lists that are the same number by number
pub flat_same : {A : Type 0} (f h : ℕ → List A) (a n : ℕ) → ((k : ℕ) → a ≤ k → k < a + n → f k ≡ h k) → flat_map f (range_with_len a n) ≡ flat_map h (range_with_len a n)
flat_same f h a zero same = refl
flat_same {A} f h a (suc n) same =
    ap₂ (λ (xs ys : List A). xs ++ ys) (same a (omega arith) (omega arith))
    (flat_same f h (a + 1) n (λ k low high. same k (omega (arith, low)) (omega (arith, high))))

module _ (key : ℕ → ℕ) (h : ℕ → List ℕ) where
  -- what is made of the numbers of a group among those in a row, and of those of some groups
  abbrev pub of_group : ℕ → ℕ → ℕ → List ℕ
  of_group k a m = flat_map h (filter (λ (c : ℕ). key c == k) (range_with_len a m))

  abbrev pub of_groups : ℕ → ℕ → ℕ → ℕ → List ℕ
  of_groups ag n a m = flat_map (λ (k : ℕ). of_group k a m) (range_with_len ag n)

  -- a number of a group in front is none of theirs
  without_first : (a m ag n : ℕ) → key a < ag → of_groups ag n a (suc m) ≡ of_groups ag n (a + 1) m
  without_first a m ag zero low = refl
  without_first a m ag (suc n) low =
      let other : (key a == ag) ≡ false = ne_eqb (key a) ag (λ same. absurd (omega (arith, same, low))) in
      ap₂ (λ (t : Bool) (xs : List ℕ). flat_map h (cond t (a ∷ filter (λ (c : ℕ). key c == ag) (range_with_len (a + 1) m)) (filter (λ (c : ℕ). key c == ag) (range_with_len (a + 1) m))) ++ xs)
      other (without_first a m (ag + 1) n (omega (arith, low)))

  none_of : (k a m : ℕ) → ((c : ℕ) → a ≤ c → c < a + m → k < key c) → of_group k a m ≡ []
  none_of k a zero above = refl
  none_of k a (suc m) above =
      let up = above a (omega arith) (omega arith) in
      let other : (key a == k) ≡ false = ne_eqb (key a) k (λ same. absurd (omega (arith, same, up))) in
      ap (λ (t : Bool). flat_map h (cond t (a ∷ filter (λ (c : ℕ). key c == k) (range_with_len (a + 1) m)) (filter (λ (c : ℕ). key c == k) (range_with_len (a + 1) m)))) other
      ∙ none_of k (a + 1) m (λ c low high. above c (omega (arith, low)) (omega (arith, high)))

  abbrev InGroups : ℕ → ℕ → ℕ → ℕ → Type 0
  InGroups ag n a m = (c : ℕ) → a ≤ c → c < a + m → (ag ≤ key c) × (key c < ag + n)

  module _ (top : ℕ) (ascend : (c e : ℕ) → c < e → e < top → key c ≤ key e) where
    step : (ag n : ℕ) → ((m a : ℕ) → a + m ≤ top → InGroups (ag + 1) n a m → of_groups (ag + 1) n a m ≡ flat_map h (range_with_len a m)) → (m a : ℕ) → a + m ≤ top → InGroups ag (suc n) a m
        → of_groups ag (suc n) a m ≡ flat_map h (range_with_len a m)
    step ag n behind zero a inside in_groups = behind zero a inside (λ c low high. absurd (omega (arith, low, high)))
    step ag n behind (suc m) a inside in_groups =
        by_case (cases_lt ag (key a))
        (step ag n behind m (a + 1) (omega (arith, inside)) (λ c low high. in_groups c (omega (arith, low)) (omega (arith, high))))
      where
        first : (ag ≤ key a) × (key a < ag + suc n)
        first = in_groups a (omega arith) (omega arith)

        later : (c : ℕ) → a ≤ c → c < a + suc m → key a ≤ key c
        later c low high = at_or_behind (cases_lt a c)
          where
            at_or_behind : (a < c) ⊎ (c ≤ a) → key a ≤ key c
            at_or_behind (inl before) = ascend a c before (omega (arith, inside, high))
            at_or_behind (inr same) = let is : key a ≡ key c = ap key (omega (arith, low, same)) in omega (arith, is)

        by_case : (ag < key a) ⊎ (key a ≤ ag) → of_groups ag (suc n) (a + 1) m ≡ flat_map h (range_with_len (a + 1) m)
            → of_groups ag (suc n) a (suc m) ≡ flat_map h (range_with_len a (suc m))
        by_case (inl above) rest =
            let none : of_group ag a (suc m) ≡ [] = none_of ag a (suc m) (λ c low high. let up = later c low high in omega (arith, above, up)) in
            ap (λ (xs : List ℕ). xs ++ of_groups (ag + 1) n a (suc m)) none
            ∙ behind (suc m) a inside (λ c low high. let up = later c low high in let in_group = in_groups c low high in let most = in_group.1 in (omega (arith, above, up), omega (arith, most)))
        by_case (inr at) rest =
            let least = first.0 in
            let here : (key a == ag) ≡ true = eq-eqb (key a) ag (omega (arith, at, least)) in
            ap (λ (t : Bool). flat_map h (cond t (a ∷ filter (λ (c : ℕ). key c == ag) (range_with_len (a + 1) m)) (filter (λ (c : ℕ). key c == ag) (range_with_len (a + 1) m))) ++ of_groups (ag + 1) n a (suc m)) here
            ∙ append_assoc (h a) (of_group ag (a + 1) m) (of_groups (ag + 1) n a (suc m))
            ∙ ap (λ (xs : List ℕ). h a ++ xs) (ap (λ (xs : List ℕ). of_group ag (a + 1) m ++ xs) (without_first a m (ag + 1) n (omega (arith, at))) ∙ rest)

    -- numbers whose groups ascend, group by group
    pub by_groups : (n ag m a : ℕ) → a + m ≤ top → InGroups ag n a m → of_groups ag n a m ≡ flat_map h (range_with_len a m)
    by_groups zero ag zero a inside in_groups = refl
    by_groups zero ag (suc m) a inside in_groups = let first = in_groups a (omega arith) (omega arith) in let low = first.0 in let high = first.1 in absurd (omega (arith, low, high))
    by_groups (suc n) ag m a inside in_groups = step ag n (λ k b within groups. by_groups n (ag + 1) k b within groups) m a inside in_groups

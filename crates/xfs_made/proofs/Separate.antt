-- Runs that do not touch are told by their blocks, and in order of length there is one list of them.
use Rattle.std.proofs.Common.{◌≡◌, ℕ, suc, ◌+◌, ◌≤◌, ◌<◌, inl, inr, true, false, ◌&&◌, ◌||◌, ◌==◌, nat_le, nat_lt, List, [], ◌∷◌, length, get_or, map, Some, refl, sym, ◌∙◌, ap, ap₂, subst, arith, true≢false}
use Rattle.std.specs.List.{AllAdjacentBelow, list_all}
use Rattle.std.proofs.lemmas.Bool.{and_from, cases_lt}
use Rattle.std.proofs.lemmas.Bool.Decides.{nat_tests}
use Rattle.xfs_disk.specs.Lists.{is_in_range}
use Rattle.xfs_geom.specs.declared.records.Span.{Span}
use Rattle.xfs_kinds.specs.FreeRuns.{AreSeparate, is_in_spans, span}
use Rattle.xfs_kinds.specs.FreeTrees.{ranks_behind}
use Rattle.xfs_kinds.specs.Lengths.{by_length}
use Rattle.xfs_kinds.proofs.ByLength.{AreRanked, all_upto, is_upto, ranked_is}
use Rattle.xfs_place.specs.Placing.{AreByLength}
use Rattle.xfs_place.proofs.Counted.{in_behind}

in_before : (rs : List Span) (low b : ℕ) → AreSeparate low rs → b < low → is_in_spans rs b ≡ false
in_before [] low b apart h = refl
in_before (r ∷ rest) low b apart h =
    let out : is_in_range r.start r.count b ≡ false = grind (arith, nat_tests, apart.0, h) in
    let next = in_before rest (r.start + r.count + 1) b apart.2 (omega (arith, apart.0, h)) in
    rw out next

in_first : (r : Span) (rest : List Span) (b : ℕ) → r.start ≤ b → b < r.start + r.count → is_in_spans (r ∷ rest) b ≡ true
in_first r rest b low high = let here : is_in_range r.start r.count b ≡ true = grind (arith, nat_tests, low, high) in rw here refl

-- the first run of one list neither begins nor ends before that of the other
begins_by : (low : ℕ) (x y : Span) (xs ys : List Span) → AreSeparate low (x ∷ xs) → AreSeparate low (y ∷ ys) → ((b : ℕ) → is_in_spans (x ∷ xs) b ≡ is_in_spans (y ∷ ys) b) → y.start ≤ x.start
begins_by low x y xs ys a b same = elim (cases_lt x.start y.start) [
  | inr from ↦ from
  | inl before ↦
      let here = in_first x xs x.start (omega arith) (omega (arith, a.1)) in
      let none = in_before (y ∷ ys) y.start x.start (omega arith, b.1, b.2) before in
      absurd (true≢false (sym here ∙ same x.start ∙ none))
]

ends_by : (low : ℕ) (x y : Span) (xs ys : List Span) → x.start ≡ y.start → AreSeparate low (x ∷ xs) → AreSeparate low (y ∷ ys) → ((b : ℕ) → is_in_spans (x ∷ xs) b ≡ is_in_spans (y ∷ ys) b) → y.count ≤ x.count
ends_by low x y xs ys start a b same = elim (cases_lt x.count y.count) [
  | inr from ↦ from
  | inl before ↦
      let end = x.start + x.count in
      let there = in_first y ys end (omega (arith, start)) (omega (arith, start, before)) in
      let none = in_behind x xs end (omega arith) ∙ in_before xs (end + 1) end a.2 (omega arith) in
      absurd (true≢false (sym there ∙ sym (same end) ∙ none))
]

pub one_separate : (low : ℕ) (xs ys : List Span) → AreSeparate low xs → AreSeparate low ys → ((b : ℕ) → is_in_spans xs b ≡ is_in_spans ys b) → xs ≡ ys
one_separate low [] [] a b same = refl
one_separate low [] (y ∷ ys) a b same = absurd (true≢false (sym (in_first y ys y.start (omega arith) (omega (arith, b.1))) ∙ sym (same y.start)))
one_separate low (x ∷ xs) [] a b same = absurd (true≢false (sym (in_first x xs x.start (omega arith) (omega (arith, a.1))) ∙ same x.start))
one_separate low (x ∷ xs) (y ∷ ys) a b same =
    let back = λ (c : ℕ). sym (same c) in
    let start : x.start ≡ y.start = omega (arith, begins_by low x y xs ys a b same, begins_by low y x ys xs b a back) in
    let count : x.count ≡ y.count = omega (arith, ends_by low x y xs ys start a b same, ends_by low y x ys xs (sym start) b a back) in
    let end : y.start + y.count + 1 ≡ x.start + x.count + 1 = omega (arith, start, count) in
    let behind : AreSeparate (x.start + x.count + 1) ys = subst (λ (n : ℕ). AreSeparate n ys) end b.2 in
    let rest : (c : ℕ) → is_in_spans xs c ≡ is_in_spans ys c = λ c. elim (cases_lt c (x.start + x.count + 1)) [
      | inl before ↦ in_before xs (x.start + x.count + 1) c a.2 before ∙ sym (in_before ys (x.start + x.count + 1) c behind before)
      | inr from ↦ sym (in_behind x xs c (omega (arith, from))) ∙ same c ∙ in_behind y ys c (omega (arith, from, start, count))
    ] in
    ap₂ (λ (r : Span) (rs : List Span). r ∷ rs) (ap₂ span start count) (one_separate (x.start + x.count + 1) xs ys a.2 behind rest)

-- runs by length
upto_behind : (s t : Span) → ranks_behind (Some s) t ≡ true → is_upto s t ≡ true
upto_behind s t e = on s.count s.start t.count t.start e
  where
    on : (a b c d : ℕ) → (nat_lt a c || (a == c && nat_lt b d)) ≡ true → (nat_lt a c || (a == c && nat_le b d)) ≡ true
    on a b c d e = grind (arith, nat_tests)

are_ranked : (ss : List Span) → AllAdjacentBelow (λ x y. ranks_behind (Some x) y ≡ true) ss (length ss) → AreRanked ss
are_ranked [] up = tt
are_ranked (s ∷ []) up = (refl, tt)
are_ranked (s ∷ t ∷ ss) up =
    let first : is_upto s t ≡ true = upto_behind s t (up 0 s (omega arith)) in
    let later = λ (k : ℕ) (d : Span) (high : k + 1 < length (t ∷ ss)).
    let shift : suc k + 1 ≡ suc (k + 1) = omega arith in
    subst (λ (n : ℕ). ranks_behind (Some (get_or (s ∷ t ∷ ss) (suc k) d)) (get_or (s ∷ t ∷ ss) n d) ≡ true) shift (up (suc k) d (omega (arith, high))) in
    let rest : AreRanked (t ∷ ss) = are_ranked (t ∷ ss) later in
    (and_from (is_upto s t) (list_all (is_upto s) ss) first (all_upto s t first ss rest.0), rest)

pub by_length_is : (spans sorted : List Span) → AreByLength spans sorted → sorted ≡ by_length spans
by_length_is spans sorted are =
    ranked_is spans sorted are.same (are_ranked sorted are.order)

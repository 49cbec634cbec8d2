-- Spans in order are all the spans, and in order.
use Rattle.std.proofs.Common.{◌≡◌, ℕ, zero, suc, ◌+◌, ◌<◌, Bool, true, false, ◌++◌, [], ◌∷◌, List, if◌then◌else◌, take, drop, get_or, length, refl, sym, ◌∙◌, ap, subst, arith}
use Rattle.std.specs.List.Sorted.{IsPermutation}
use Rattle.std.proofs.lemmas.Bool.Decides.{nat_tests}
use Rattle.std.proofs.lemmas.List.{drop_more, take-append-drop}
use Rattle.std.proofs.lemmas.List.Sorted.{IsPermutation-refl, IsPermutation-sym, IsPermutation-cons, IsPermutation-trans, IsPermutation-middle}
use Rattle.xfs_dirdata.specs.declared.records.FreeSpan.{FreeSpan}
use Rattle.xfs_dirdata.specs.Best.{missing, is_before, with_span, spans_in_order, bests_of, NoSpanBefore, SpansInOrder, Lead}

-- what does not come before a span does not come before an earlier one
not_before : (s t u : FreeSpan) → is_before s t ≡ true → is_before u t ≡ false → is_before u s ≡ false
not_before s t u first last = grind (arith, nat_tests)

not_both : (s t : FreeSpan) → is_before s t ≡ true → is_before t s ≡ false
not_both s t first = grind (arith, nat_tests)

none_before-earlier : (s t : FreeSpan) (us : List FreeSpan) → is_before s t ≡ true → NoSpanBefore t us → NoSpanBefore s us
none_before-earlier s t [] first none = tt
none_before-earlier s t (u ∷ us) first none = (not_before s t u first none.0, none_before-earlier s t us first none.1)

none_before-with : (t s : FreeSpan) (us : List FreeSpan) → is_before s t ≡ false → NoSpanBefore t us → NoSpanBefore t (with_span s us)
none_before-with t s [] last none = (last, tt)
none_before-with t s (u ∷ us) last none = by_case (is_before s u) (none_before-with t s us last none.1)
  where
    by_case : (b : Bool) → NoSpanBefore t (with_span s us) → NoSpanBefore t (if b then s ∷ u ∷ us else u ∷ with_span s us)
    by_case true rest = (last, none)
    by_case false rest = (none.0, rest)

in_order-with : (s : FreeSpan) (ts : List FreeSpan) → SpansInOrder ts → SpansInOrder (with_span s ts)
in_order-with s [] order = (tt, tt)
in_order-with s (t ∷ ts) order = by_case (is_before s t) refl (in_order-with s ts order.1)
  where
    by_case : (b : Bool) → is_before s t ≡ b → SpansInOrder (with_span s ts) → SpansInOrder (if b then s ∷ t ∷ ts else t ∷ with_span s ts)
    by_case true first rest = ((not_both s t first, none_before-earlier s t ts first order.0), order)
    by_case false last rest = (none_before-with t s ts last order.0, rest)

are_in_order : (ss : List FreeSpan) → SpansInOrder (spans_in_order ss)
are_in_order [] = tt
are_in_order (s ∷ ss) = in_order-with s (spans_in_order ss) (are_in_order ss)

-- putting a span in its place only moves it
moved-with : (s : FreeSpan) (ts : List FreeSpan) → IsPermutation (s ∷ ts) (with_span s ts)
moved-with s [] = IsPermutation-refl (s ∷ [])
moved-with s (t ∷ ts) = by_case (is_before s t) (moved-with s ts)
  where
    by_case : (b : Bool) → IsPermutation (s ∷ ts) (with_span s ts) → IsPermutation (s ∷ t ∷ ts) (if b then s ∷ t ∷ ts else t ∷ with_span s ts)
    by_case true rest = IsPermutation-refl (s ∷ t ∷ ts)
    by_case false rest =
        IsPermutation-trans (s ∷ t ∷ ts) (t ∷ s ∷ ts) (t ∷ with_span s ts)
        (IsPermutation-sym (t ∷ s ∷ ts) (s ∷ t ∷ ts) (IsPermutation-middle (t ∷ []) s ts)) (IsPermutation-cons t (s ∷ ts) (with_span s ts) rest)

moved : (ss : List FreeSpan) → IsPermutation ss (spans_in_order ss)
moved [] = IsPermutation-refl []
moved (s ∷ ss) =
    IsPermutation-trans (s ∷ ss) (s ∷ spans_in_order ss) (with_span s (spans_in_order ss)) (IsPermutation-cons s ss (spans_in_order ss) (moved ss)) (moved-with s (spans_in_order ss))

-- so the first three lead all spans
pub lead : (free bests : List FreeSpan) → bests ≡ bests_of free → Lead free bests
unfolding bests_of
lead free bests are =
    let all = free ++ missing ∷ missing ∷ missing ∷ [] in
    let whole : bests ++ drop 3 (spans_in_order all) ≡ spans_in_order all = ap (λ (xs : List FreeSpan). xs ++ drop 3 (spans_in_order all)) are ∙ take-append-drop 3 (spans_in_order all) in (
      drop 3 (spans_in_order all),
      subst (λ (xs : List FreeSpan). IsPermutation all xs) (sym whole) (moved all),
      subst SpansInOrder (sym whole) (are_in_order all),
    )

-- of the first three only the first three count
take_in : (k : ℕ) (ss : List FreeSpan) → take k (take (suc k) ss) ≡ take k ss
take_in zero ss = refl
take_in (suc k) [] = refl
take_in (suc k) (s ∷ ss) = ap (λ (ts : List FreeSpan). s ∷ ts) (take_in k ss)

take_front : (k : ℕ) (t : FreeSpan) (ts : List FreeSpan) → take k (t ∷ take k ts) ≡ take k (t ∷ ts)
take_front zero t ts = refl
take_front (suc k) t ts = ap (λ (us : List FreeSpan). t ∷ us) (take_in k ts)

take_with : (k : ℕ) (s : FreeSpan) (ts : List FreeSpan) → take k (with_span s (take k ts)) ≡ take k (with_span s ts)
take_with zero s ts = refl
take_with (suc k) s [] = refl
take_with (suc k) s (t ∷ ts) = by_case (is_before s t) (take_with k s ts)
  where
    by_case : (b : Bool) → take k (with_span s (take k ts)) ≡ take k (with_span s ts)
        → take (suc k) (if b then s ∷ t ∷ take k ts else t ∷ with_span s (take k ts)) ≡ take (suc k) (if b then s ∷ t ∷ ts else t ∷ with_span s ts)
    by_case true rest = ap (λ (us : List FreeSpan). s ∷ us) (take_front k t ts)
    by_case false rest = ap (λ (us : List FreeSpan). t ∷ us) rest

-- one span more, from the last to the first
pub span_more : (free : List FreeSpan) (left n : ℕ) (bests new : List FreeSpan) → left ≡ n + 1 → n < length free
    → bests ≡ take 3 (spans_in_order (drop left free ++ missing ∷ missing ∷ missing ∷ [])) → new ≡ take 3 (with_span (get_or free n missing) bests)
    → new ≡ take 3 (spans_in_order (drop n free ++ missing ∷ missing ∷ missing ∷ []))
span_more free left n bests new next inside before put =
    put
    ∙ ap (λ (ss : List FreeSpan). take 3 (with_span (get_or free n missing) ss)) before
    ∙ take_with 3 (get_or free n missing) (spans_in_order (drop left free ++ missing ∷ missing ∷ missing ∷ []))
    ∙ ap (λ (k : ℕ). take 3 (with_span (get_or free n missing) (spans_in_order (drop k free ++ missing ∷ missing ∷ missing ∷ [])))) next
    ∙ ap (λ (ss : List FreeSpan). take 3 (spans_in_order (ss ++ missing ∷ missing ∷ missing ∷ []))) (sym (drop_more free n missing inside))

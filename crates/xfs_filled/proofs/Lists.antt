-- Lists of what a function tells of numbers.
use Rattle.std.proofs.Common.{◌≡◌, ℕ, ◌+◌, ◌<◌, Bool, true, false, List, [], ◌∷◌, ◌++◌, length, map, get_or, arith, refl, sym, ap, ◌∙◌, append-nil, append_assoc}
use Rattle.std.specs.List.{filter, range_with_len}
use Rattle.std.proofs.lemmas.List.{ext_get_or, map-append}
use Rattle.std.proofs.lemmas.List.Elements.{filter-append}
use Rattle.std.proofs.lemmas.List.FromFn.{get_or-map-range_with_len, length-map-range_with_len, map-range_with_len_more}
use Rattle.xfs_empty.proofs.Pushed.{range_more}

-- a list of n items that a function tells
pub listed : {X : Type 0} (f : ℕ → X) (xs : List X) (n : ℕ) (d : X) → length xs ≡ n → ((i : ℕ) → i < n → get_or xs i d ≡ f i) → xs ≡ map f (range_with_len 0 n)
listed f xs n d long each =
    ext_get_or d xs (map f (range_with_len 0 n)) (long ∙ sym (length-map-range_with_len f 0 n)) (λ i low.
    each i (omega (arith, low, long)) ∙ sym (get_or-map-range_with_len f 0 n i i d (omega (arith, low, long)) (omega arith)))

one_kept : (p : ℕ → Bool) (j : ℕ) → p j ≡ true → filter p (j ∷ []) ≡ j ∷ []
one_kept p j passes = rw passes refl

none_kept : (p : ℕ → Bool) (j : ℕ) → p j ≡ false → filter p (j ∷ []) ≡ []
none_kept p j fails = rw fails refl

-- one number more of a range that is filtered
pub filter_next : (p : ℕ → Bool) (a n j : ℕ) → a + n ≡ j → p j ≡ true → filter p (range_with_len a (n + 1)) ≡ filter p (range_with_len a n) ++ j ∷ []
filter_next p a n j at passes =
    ap (filter p) (range_more a n ∙ ap (λ (m : ℕ). range_with_len a n ++ m ∷ []) at) ∙ filter-append p (range_with_len a n) (j ∷ [])
    ∙ ap (λ (xs : List ℕ). filter p (range_with_len a n) ++ xs) (one_kept p j passes)

pub filter_same : (p : ℕ → Bool) (a n j : ℕ) → a + n ≡ j → p j ≡ false → filter p (range_with_len a (n + 1)) ≡ filter p (range_with_len a n)
filter_same p a n j at fails =
    ap (filter p) (range_more a n ∙ ap (λ (m : ℕ). range_with_len a n ++ m ∷ []) at) ∙ filter-append p (range_with_len a n) (j ∷ [])
    ∙ ap (λ (xs : List ℕ). filter p (range_with_len a n) ++ xs) (none_kept p j fails) ∙ append-nil (filter p (range_with_len a n))

-- the same where each number gives an item
pub mapped_next : {Y : Type 0} (f : ℕ → Y) (p : ℕ → Bool) (a n j : ℕ) (now new : List Y) → a + n ≡ j → p j ≡ true → now ≡ map f (filter p (range_with_len a n))
    → new ≡ now ++ f j ∷ [] → new ≡ map f (filter p (range_with_len a (n + 1)))
mapped_next f p a n j now new at passes is pushed =
    pushed ∙ ap (λ ys. ys ++ f j ∷ []) is ∙ sym (map-append f (filter p (range_with_len a n)) (j ∷ [])) ∙ ap (map f) (sym (filter_next p a n j at passes))

pub mapped_same : {Y : Type 0} (f : ℕ → Y) (p : ℕ → Bool) (a n j : ℕ) (now : List Y) → a + n ≡ j → p j ≡ false → now ≡ map f (filter p (range_with_len a n))
    → now ≡ map f (filter p (range_with_len a (n + 1)))
mapped_same f p a n j now at fails is = is ∙ ap (map f) (sym (filter_same p a n j at fails))

-- one number more of a range that is mapped, behind other items
pub ranged_next : {Y : Type 0} (f : ℕ → Y) (before now new : List Y) (i : ℕ) → now ≡ before ++ map f (range_with_len 0 i) → new ≡ now ++ f i ∷ [] → new ≡ before ++ map f (range_with_len 0 (i + 1))
ranged_next f before now new i is pushed =
    pushed ∙ ap (λ ys. ys ++ f i ∷ []) is ∙ append_assoc before (map f (range_with_len 0 i)) (f i ∷ [])
    ∙ ap (λ ys. before ++ ys) (sym (map-range_with_len_more f 0 i i (omega arith)))

-- Lists that are made row by row.
use Rattle.std.proofs.Common.{◌≡◌, ℕ, suc, ◌+◌, ◌-◌, ◌<◌, ◌≤◌, List, [], ◌∷◌, ◌++◌, map, length, drop, get_or, sym, ap, ◌∙◌, arith}
use Rattle.std.specs.List.{flat_map, range_with_len}
use Rattle.std.proofs.lemmas.List.{append-nil, append_assoc, drop_all, drop_more}

-- what is left of a row of n items from number b on, where number b was added
pub row_more : {A B : Type 0} (of : B → List A) (item : ℕ → B) (old new all : List A) (b n m : ℕ) → n ≡ suc m → new ≡ old ++ of (item b)
    → old ++ flat_map of (map item (range_with_len b n)) ≡ all → new ++ flat_map of (map item (range_with_len (b + 1) m)) ≡ all
row_more of item old new all b n m more added held =
    ap (λ xs. xs ++ flat_map of (map item (range_with_len (b + 1) m))) added
    ∙ append_assoc old (of (item b)) (flat_map of (map item (range_with_len (b + 1) m)))
    ∙ ap (λ k. old ++ flat_map of (map item (range_with_len b k))) (sym more) ∙ held

-- the same of numbers
pub range_more : {A : Type 0} (of : ℕ → List A) (old new all : List A) (b n m : ℕ) → n ≡ suc m → new ≡ old ++ of b
    → old ++ flat_map of (range_with_len b n) ≡ all → new ++ flat_map of (range_with_len (b + 1) m) ≡ all
range_more of old new all b n m more added held =
    ap (λ xs. xs ++ flat_map of (range_with_len (b + 1) m)) added
    ∙ append_assoc old (of b) (flat_map of (range_with_len (b + 1) m))
    ∙ ap (λ k. old ++ flat_map of (range_with_len b k)) (sym more) ∙ held

-- how many are left, one on and at the end
pub one_less : (n i : ℕ) → i < n → n - i ≡ suc (n - (i + 1))
one_less n i low = omega (arith, low)

none_over : (n i : ℕ) → n ≤ i → n - i ≡ 0
none_over n i past = omega (arith, past)

-- nothing is left
ended : {A : Type 0} (old rest all : List A) → rest ≡ [] → old ++ rest ≡ all → old ≡ all
ended old rest all none held = sym (append-nil old) ∙ ap (λ xs. old ++ xs) (sym none) ∙ held

pub row_end : {A B : Type 0} (of : B → List A) (item : ℕ → B) (old all : List A) (b n i : ℕ) → n ≤ i → old ++ flat_map of (map item (range_with_len b (n - i))) ≡ all → old ≡ all
row_end of item old all b n i past held =
    ended old (flat_map of (map item (range_with_len b (n - i)))) all (ap (λ k. flat_map of (map item (range_with_len b k))) (none_over n i past)) held

-- what is left of a list, where what an item gives was added, and where nothing is left
pub listed_more : {A B : Type 0} (of : A → List B) (xs : List A) (i : ℕ) (d : A) (old new all : List B) → i < length xs → new ≡ old ++ of (get_or xs i d)
    → old ++ flat_map of (drop i xs) ≡ all → new ++ flat_map of (drop (i + 1) xs) ≡ all
listed_more of xs i d old new all low added held =
    let rest = flat_map of (drop (i + 1) xs) in
    ap (λ ys. ys ++ rest) added
    ∙ append_assoc old (of (get_or xs i d)) rest
    ∙ ap (λ ys. old ++ flat_map of ys) (sym (drop_more xs i d low)) ∙ held

pub listed_item : {A B : Type 0} (of : A → List B) (xs : List A) (i : ℕ) (x : A) (old new all : List B) → i < length xs → x ≡ get_or xs i x → new ≡ old ++ of x
    → old ++ flat_map of (drop i xs) ≡ all → new ++ flat_map of (drop (i + 1) xs) ≡ all
listed_item of xs i x old new all low is added held = listed_more of xs i x old new all low (added ∙ ap (λ y. old ++ of y) is) held

pub listed_end : {A B : Type 0} (of : A → List B) (xs : List A) (i : ℕ) (old all : List B) → length xs ≤ i → old ++ flat_map of (drop i xs) ≡ all → old ≡ all
listed_end of xs i old all past held = ended old (flat_map of (drop i xs)) all (ap (λ ys. flat_map of ys) (drop_all i xs past)) held

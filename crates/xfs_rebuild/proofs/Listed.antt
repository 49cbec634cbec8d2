-- Lists that are made item by item.
use Rattle.std.proofs.Common.{◌≡◌, ℕ, suc, Bool, ◌+◌, ◌-◌, ◌<◌, ◌≤◌, List, [], ◌∷◌, ◌++◌, map, filter, drop, get_or, length, sym, ap, ◌∙◌, arith}
use Rattle.std.specs.List.{flat_map, range_with_len}
use Rattle.std.proofs.lemmas.List.{append-nil, append_assoc, drop_all, drop_more}
use Rattle.std.proofs.lemmas.List.Elements.{filter-append}

-- what is left of a row of n numbers from b on, where what b gives was added
pub range_more : {A : Type 0} (of : ℕ → List A) (old new all : List A) (b n m : ℕ) → n ≡ suc m → new ≡ old ++ of b
    → old ++ flat_map of (range_with_len b n) ≡ all → new ++ flat_map of (range_with_len (b + 1) m) ≡ all
range_more of old new all b n m more added held =
    ap (λ xs. xs ++ flat_map of (range_with_len (b + 1) m)) added
    ∙ append_assoc old (of b) (flat_map of (range_with_len (b + 1) m))
    ∙ ap (λ k. old ++ flat_map of (range_with_len b k)) (sym more) ∙ held

-- the same, where each gives one item
pub item_more : {A : Type 0} (item : ℕ → A) (old new all : List A) (b n m : ℕ) → n ≡ suc m → new ≡ old ++ item b ∷ []
    → old ++ map item (range_with_len b n) ≡ all → new ++ map item (range_with_len (b + 1) m) ≡ all
item_more item old new all b n m more added held =
    ap (λ xs. xs ++ map item (range_with_len (b + 1) m)) added
    ∙ append_assoc old (item b ∷ []) (map item (range_with_len (b + 1) m))
    ∙ ap (λ k. old ++ map item (range_with_len b k)) (sym more) ∙ held

-- the numbers themselves that pass a test, counted from a first one on
pub number_more : (test : ℕ → Bool) (first i n : ℕ) (old new all : List ℕ) → i < n → new ≡ old ++ filter test ((first + i) ∷ [])
    → old ++ filter test (range_with_len (first + i) (n - i)) ≡ all → new ++ filter test (range_with_len (first + (i + 1)) (n - (i + 1))) ≡ all
number_more test first i n old new all low added held =
    let more : n - i ≡ suc (n - (i + 1)) = omega (arith, low) in
    let next : first + (i + 1) ≡ first + i + 1 = omega arith in
    let rest : List ℕ = range_with_len (first + (i + 1)) (n - (i + 1)) in
    ap (λ xs. xs ++ filter test rest) added
    ∙ append_assoc old (filter test ((first + i) ∷ [])) (filter test rest)
    ∙ ap (λ xs. old ++ xs) (sym (filter-append test ((first + i) ∷ []) rest))
    ∙ ap (λ k. old ++ filter test ((first + i) ∷ range_with_len k (n - (i + 1)))) next
    ∙ ap (λ k. old ++ filter test (range_with_len (first + i) k)) (sym more) ∙ held

-- what passes a test of the lists of what is left, where that of the next was added
pub passed_more : (test : ℕ → Bool) (of : ℕ → List ℕ) (old new all : List ℕ) (xs : List ℕ) (i d : ℕ) → i < length xs → new ≡ old ++ filter test (of (get_or xs i d))
    → old ++ filter test (flat_map of (drop i xs)) ≡ all → new ++ filter test (flat_map of (drop (i + 1) xs)) ≡ all
passed_more test of old new all xs i d low added held =
    let rest : List ℕ = flat_map of (drop (i + 1) xs) in
    ap (λ ys. ys ++ filter test rest) added
    ∙ append_assoc old (filter test (of (get_or xs i d))) (filter test rest)
    ∙ ap (λ ys. old ++ ys) (sym (filter-append test (of (get_or xs i d)) rest))
    ∙ ap (λ ys. old ++ filter test (flat_map of ys)) (sym (drop_more xs i d low)) ∙ held

-- what the items of what is left give, where what the next gives was added
pub listed_more : {A B : Type 0} (of : A → List B) (xs : List A) (i : ℕ) (d : A) (old new all : List B) → i < length xs → new ≡ old ++ of (get_or xs i d)
    → old ++ flat_map of (drop i xs) ≡ all → new ++ flat_map of (drop (i + 1) xs) ≡ all
listed_more of xs i d old new all low added held =
    let rest = flat_map of (drop (i + 1) xs) in
    ap (λ ys. ys ++ rest) added
    ∙ append_assoc old (of (get_or xs i d)) rest
    ∙ ap (λ ys. old ++ flat_map of ys) (sym (drop_more xs i d low)) ∙ held

-- the same for an item that has a name
pub listed_from : {A B : Type 0} (of : A → List B) (xs : List A) (i : ℕ) (x : A) (old new all : List B) → i < length xs → x ≡ get_or xs i x → new ≡ old ++ of x
    → old ++ flat_map of (drop i xs) ≡ all → new ++ flat_map of (drop (i + 1) xs) ≡ all
listed_from of xs i x old new all low is added held = listed_more of xs i x old new all low (added ∙ ap (λ y. old ++ of y) is) held

-- how many are left, one on and at the end
pub one_less : (n i : ℕ) → i < n → n - i ≡ suc (n - (i + 1))
one_less n i low = omega (arith, low)

-- none gone, and none more
pub none_gone : (n : ℕ) → n - 0 ≡ n
none_gone n = omega arith

pub none_more : (n : ℕ) → n + 0 ≡ n
none_more n = omega arith

none_over : (n i : ℕ) → n ≤ i → n - i ≡ 0
none_over n i past = omega (arith, past)

-- nothing is left
ended : {A : Type 0} (old rest all : List A) → rest ≡ [] → old ++ rest ≡ all → old ≡ all
ended old rest all none held = sym (append-nil old) ∙ ap (λ xs. old ++ xs) (sym none) ∙ held

pub items_end : {A : Type 0} (item : ℕ → A) (old all : List A) (b n i : ℕ) → n ≤ i → old ++ map item (range_with_len b (n - i)) ≡ all → old ≡ all
items_end item old all b n i past held = ended old (map item (range_with_len b (n - i))) all (ap (λ k. map item (range_with_len b k)) (none_over n i past)) held

pub numbers_end : (test : ℕ → Bool) (old all : List ℕ) (b n i : ℕ) → n ≤ i → old ++ filter test (range_with_len b (n - i)) ≡ all → old ≡ all
numbers_end test old all b n i past held = ended old (filter test (range_with_len b (n - i))) all (ap (λ k. filter test (range_with_len b k)) (none_over n i past)) held

pub listed_end : {A B : Type 0} (of : A → List B) (xs : List A) (i : ℕ) (old all : List B) → length xs ≤ i → old ++ flat_map of (drop i xs) ≡ all → old ≡ all
listed_end of xs i old all past held = ended old (flat_map of (drop i xs)) all (ap (λ ys. flat_map of ys) (drop_all i xs past)) held

pub passed_end : (test : ℕ → Bool) (of : ℕ → List ℕ) (xs : List ℕ) (i : ℕ) (old all : List ℕ) → length xs ≤ i → old ++ filter test (flat_map of (drop i xs)) ≡ all → old ≡ all
passed_end test of xs i old all past held = ended old (filter test (flat_map of (drop i xs))) all (ap (λ ys. filter test (flat_map of ys)) (drop_all i xs past)) held

-- The items of a row by their places, from one of them on.
use Rattle.std.proofs.Common.{◌≡◌, ℕ, suc, ◌+◌, ◌-◌, ◌<◌, ◌≤◌, List, [], ◌∷◌, ◌++◌, map, Option, Some, refl, sym, ◌∙◌, ap, arith}
use Rattle.std.specs.List.{range_with_len}
use Rattle.std.proofs.lemmas.List.{append_assoc, append-nil}
use Rattle.std.proofs.lemmas.List.FromFn.{map-range_with_len_more}
use Rattle.xfs_tree.specs.Blocks.{each_of}
use Rattle.xfs_tree.specs.Rules.{last_of}

-- the items from place i on, of n
abbrev pub rest_of : {A : Type 0} → ℕ → ℕ → (ℕ → A) → List A
rest_of i n item = map item (range_with_len i (n - i))

-- from the first on these are all
pub rest_all : {A : Type 0} (n : ℕ) (item : ℕ → A) → rest_of 0 n item ≡ each_of n item
rest_all n item = ap (λ k. map item (range_with_len 0 k)) (omega arith)

-- item i stands in front of those behind it
pub rest_next : {A : Type 0} (i n : ℕ) (item : ℕ → A) → i < n → rest_of i n item ≡ item i ∷ rest_of (i + 1) n item
rest_next i n item inside =
    let more : n - i ≡ suc (n - (i + 1)) = omega arith in
    ap (λ k. map item (range_with_len i k)) more

-- behind the last there is none
pub rest_none : {A : Type 0} (i n : ℕ) (item : ℕ → A) → n ≤ i → rest_of i n item ≡ []
rest_none i n item end =
    let none : n - i ≡ 0 = omega arith in
    ap (λ k. map item (range_with_len i k)) none

-- a list grows by what stands first of the rest
pub grown : {A : Type 0} (old new part rest rest' all : List A) → new ≡ old ++ part → rest ≡ part ++ rest' → old ++ rest ≡ all → new ++ rest' ≡ all
grown old new part rest rest' all more split held =
    ap (λ xs. xs ++ rest') more ∙ append_assoc old part rest' ∙ ap (λ xs. old ++ xs) (sym split) ∙ held

-- item i is added to those before it
pub pushed : {A : Type 0} (item : ℕ → A) (i n : ℕ) (old new all : List A) (x : A) → i < n → new ≡ old ++ x ∷ [] → x ≡ item i
    → old ++ rest_of i n item ≡ all → new ++ rest_of (i + 1) n item ≡ all
pushed item i n old new all x inside more value held =
    grown old new (x ∷ []) (rest_of i n item) (rest_of (i + 1) n item) all more (rest_next i n item inside ∙ ap (λ y. y ∷ rest_of (i + 1) n item) (sym value)) held

-- all items are added
pub pushed_all : {A : Type 0} (item : ℕ → A) (i n : ℕ) (old new : List A) → n ≤ i → new ++ rest_of i n item ≡ old ++ each_of n item → new ≡ old ++ each_of n item
pushed_all item i n old new end held = sym (append-nil new) ∙ ap (λ xs. new ++ xs) (sym (rest_none i n item end)) ∙ held

-- the last of a list that ends with an item
last_behind : {A : Type 0} (before : Option A) (xs : List A) (x : A) → last_of before (xs ++ x ∷ []) ≡ Some x
last_behind before [] x = refl
last_behind before (y ∷ xs) x = last_behind (Some y) xs x

-- the last of n items is item n - 1
pub last_each : {A : Type 0} (before : Option A) (n m : ℕ) (item : ℕ → A) → n ≡ m + 1 → last_of before (each_of n item) ≡ Some (item m)
last_each before n m item value =
    ap (λ k. last_of before (each_of k item)) value
    ∙ ap (last_of before) (map-range_with_len_more item 0 m m (omega arith))
    ∙ last_behind before (each_of m item) (item m)

-- Lists of what a function makes of each item of another list, and of those that pass a test.
use Rattle.std.proofs.Common.{Bool, true, false, if◌then◌else◌, ◌≡◌, ◌+◌, ◌≤◌, ◌<◌, ◌++◌, ◌∷◌, [], ℕ, List, length, map, take, get_or, sym, ◌∙◌, ap}
use Rattle.std.specs.List.{filter}
use Rattle.std.proofs.lemmas.List.Elements.{filter-append}
use Rattle.std.proofs.lemmas.List.{append-nil, map-append, take_all, take_more}

-- one item more
pub mapped_more : {A B : Type 0} (f : A → B) (xs : List A) (i : ℕ) (d : A) (old new : List B) → i < length xs → old ≡ map f (take i xs)
    → new ≡ old ++ f (get_or xs i d) ∷ [] → new ≡ map f (take (i + 1) xs)
mapped_more f xs i d old new inside held more =
    more ∙ ap (λ ys. ys ++ f (get_or xs i d) ∷ []) held ∙ sym (ap (map f) (take_more xs i d inside) ∙ map-append f (take i xs) (get_or xs i d ∷ []))

-- all items
pub mapped_all : {A B : Type 0} (f : A → B) (xs : List A) (i : ℕ) (new : List B) → length xs ≤ i → new ≡ map f (take i xs) → new ≡ map f xs
mapped_all f xs i new past held = held ∙ ap (map f) (take_all i xs past)

-- one item more, which passes or does not
filter_next : {A : Type 0} (p : A → Bool) (xs : List A) (i : ℕ) (d : A) (t : Bool) → i < length xs → p (get_or xs i d) ≡ t
    → filter p (take (i + 1) xs) ≡ filter p (take i xs) ++ (if t then get_or xs i d ∷ [] else [])
filter_next p xs i d t inside is =
    ap (filter p) (take_more xs i d inside)
    ∙ filter-append p (take i xs) (get_or xs i d ∷ [])
    ∙ ap (λ (b : Bool). filter p (take i xs) ++ (if b then get_or xs i d ∷ [] else [])) is

pub filtered_more : {A : Type 0} (p : A → Bool) (xs : List A) (i : ℕ) (d : A) (old new : List A) → i < length xs → p (get_or xs i d) ≡ true → old ≡ filter p (take i xs)
    → new ≡ old ++ get_or xs i d ∷ [] → new ≡ filter p (take (i + 1) xs)
filtered_more p xs i d old new inside passes held more =
    more ∙ ap (λ ys. ys ++ get_or xs i d ∷ []) held ∙ sym (filter_next p xs i d true inside passes)

pub filtered_same : {A : Type 0} (p : A → Bool) (xs : List A) (i : ℕ) (d : A) (old : List A) → i < length xs → p (get_or xs i d) ≡ false → old ≡ filter p (take i xs)
    → old ≡ filter p (take (i + 1) xs)
filtered_same p xs i d old inside fails held =
    held ∙ sym (append-nil (filter p (take i xs))) ∙ sym (filter_next p xs i d false inside fails)

-- one item more of which a list is made
pub taken_more : {A B : Type 0} (f : B → A) (xs : List A) (i : ℕ) (d : A) (b : B) (old new : List B) → i < length xs → f b ≡ get_or xs i d → map f old ≡ take i xs
    → new ≡ old ++ b ∷ [] → map f new ≡ take (i + 1) xs
taken_more f xs i d b old new inside is held more =
    ap (map f) more ∙ map-append f old (b ∷ []) ∙ ap (λ ys. ys ++ f b ∷ []) held ∙ ap (λ y. take i xs ++ y ∷ []) is ∙ sym (take_more xs i d inside)

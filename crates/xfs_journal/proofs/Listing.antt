-- Lists that grow by what stands first of the rest.
use Rattle.std.proofs.Common.{◌≡◌, ℕ, suc, ◌+◌, ◌-◌, ◌<◌, ◌≤◌, List, [], ◌∷◌, ◌++◌, length, drop, map, get_or, sym, ◌∙◌, ap, ap₂, arith}
use Rattle.std.specs.List.{flat_map, range_with_len}
use Rattle.std.proofs.lemmas.List.{append_assoc, append-nil, drop_more, length-drop, nil_from_length}

-- the items of a row from place i on, of n
abbrev pub rest_of : {A : Type 0} → ℕ → ℕ → (ℕ → A) → List A
rest_of i n item = map item (range_with_len i (n - i))

rest_next : {A : Type 0} (i n : ℕ) (item : ℕ → A) → i < n → rest_of i n item ≡ item i ∷ rest_of (i + 1) n item
rest_next i n item inside =
    let more : n - i ≡ suc (n - (i + 1)) = omega arith in
    ap (λ k. map item (range_with_len i k)) more

rest_none : {A : Type 0} (i n : ℕ) (item : ℕ → A) → n ≤ i → rest_of i n item ≡ []
rest_none i n item end =
    let none : n - i ≡ 0 = omega arith in
    ap (λ k. map item (range_with_len i k)) none

-- all of them
pub rest_whole : {A : Type 0} (n : ℕ) (item : ℕ → A) → rest_of 0 n item ≡ map item (range_with_len 0 n)
rest_whole n item =
    let all : n - 0 ≡ n = omega arith in
    ap (λ k. map item (range_with_len 0 k)) all

-- a list grows by what stands first of the rest
pub grown : {A : Type 0} (old new part rest rest' all : List A) → new ≡ old ++ part → rest ≡ part ++ rest' → old ++ rest ≡ all → new ++ rest' ≡ all
grown old new part rest rest' all more split held =
    ap (λ xs. xs ++ rest') more ∙ append_assoc old part rest' ∙ ap (λ xs. old ++ xs) (sym split) ∙ held

-- item i is added to those before it
pub pushed : {A : Type 0} (item : ℕ → A) (i n : ℕ) (old new all : List A) → i < n → new ≡ old ++ item i ∷ []
    → old ++ rest_of i n item ≡ all → new ++ rest_of (i + 1) n item ≡ all
pushed item i n old new all inside more held =
    grown old new (item i ∷ []) (rest_of i n item) (rest_of (i + 1) n item) all more (rest_next i n item inside) held

-- all items are added
pub pushed_all : {A : Type 0} (item : ℕ → A) (i n : ℕ) (new all : List A) → n ≤ i → new ++ rest_of i n item ≡ all → new ≡ all
pushed_all item i n new all end held = sym (append-nil new) ∙ ap (λ xs. new ++ xs) (sym (rest_none i n item end)) ∙ held

-- what is left of a list, from an item on and behind the last
pub left_from : {A : Type 0} (xs : List A) (i : ℕ) (x : A) → i < length xs → x ≡ get_or xs i x → drop i xs ≡ x ∷ drop (i + 1) xs
left_from xs i x inside value = drop_more xs i x inside ∙ ap (λ y. y ∷ drop (i + 1) xs) (sym value)

pub none_left : {A : Type 0} (xs : List A) (i : ℕ) → length xs ≤ i → drop i xs ≡ []
none_left xs i past = let rest = length-drop i xs in nil_from_length (drop i xs) (omega (arith, rest))

-- what the parts of a row hold, one part more, and all
pub held_more : {A B : Type 0} (f : A → List B) (x : A) (xs : List A) (i : ℕ) (old new all : List B) → i < length xs → x ≡ get_or xs i x → new ≡ old ++ f x
    → old ++ flat_map f (drop i xs) ≡ all → new ++ flat_map f (drop (i + 1) xs) ≡ all
held_more f x xs i old new all inside value more held =
    grown old new (f x) (flat_map f (drop i xs)) (flat_map f (drop (i + 1) xs)) all more (ap (flat_map f) (left_from xs i x inside value)) held

pub held_all : {A B : Type 0} (f : A → List B) (xs : List A) (i : ℕ) (new all : List B) → length xs ≤ i → new ++ flat_map f (drop i xs) ≡ all → new ≡ all
held_all f xs i new all past held = sym (append-nil new) ∙ ap (λ rest. new ++ flat_map f rest) (sym (none_left xs i past)) ∙ held

pub three_more : {A : Type 0} (old one two new : List A) (a b c : A) → one ≡ old ++ a ∷ [] → two ≡ one ++ b ∷ [] → new ≡ two ++ c ∷ [] → new ≡ old ++ a ∷ b ∷ c ∷ []
three_more old one two new a b c first second third =
    third ∙ ap (λ xs. xs ++ c ∷ []) (second ∙ ap (λ xs. xs ++ b ∷ []) first) ∙ append_assoc (old ++ a ∷ []) (b ∷ []) (c ∷ []) ∙ append_assoc old (a ∷ []) (b ∷ c ∷ [])

-- the same for an item that is read with any default
pub held_at : {A B : Type 0} (f : A → List B) (xs : List A) (i : ℕ) (d : A) (old new all : List B) → i < length xs → new ≡ old ++ f (get_or xs i d)
    → old ++ flat_map f (drop i xs) ≡ all → new ++ flat_map f (drop (i + 1) xs) ≡ all
held_at f xs i d old new all inside more held =
    grown old new (f (get_or xs i d)) (flat_map f (drop i xs)) (flat_map f (drop (i + 1) xs)) all more (ap (flat_map f) (drop_more xs i d inside)) held

-- what the numbers from one on hold, at the start and at the end
pub held_from_start : {B : Type 0} (f : ℕ → List B) (first n : ℕ) (new : List B) → new ≡ []
    → new ++ flat_map f (range_with_len (first + 0) (n - 0)) ≡ flat_map f (range_with_len first n)
held_from_start f first n new none =
    ap (λ xs. xs ++ flat_map f (range_with_len (first + 0) (n - 0))) none ∙ ap₂ (λ (a k : ℕ). flat_map f (range_with_len a k)) (omega arith) (omega arith)

pub held_to_end : {B : Type 0} (f : ℕ → List B) (first i n : ℕ) (new all : List B) → n ≤ i → new ++ flat_map f (range_with_len (first + i) (n - i)) ≡ all → new ≡ all
held_to_end f first i n new all past held =
    let none : n - i ≡ 0 = omega arith in
    sym (append-nil new) ∙ ap (λ k. new ++ flat_map f (range_with_len (first + i) k)) (sym none) ∙ held

-- the parts of four numbers in a row
pub four_parts : {A : Type 0} (f : ℕ → List A) (first : ℕ) (old one two three new : List A) → one ≡ old ++ f first → two ≡ one ++ f (first + 1) → three ≡ two ++ f (first + 2)
    → new ≡ three ++ f (first + 3) → new ≡ old ++ flat_map f (range_with_len first 4)
four_parts f first old one two three new a b c d =
    let third : first + 2 ≡ first + 1 + 1 = omega arith in
    let fourth : first + 3 ≡ first + 1 + 1 + 1 = omega arith in
    let c' : three ≡ two ++ f (first + 1 + 1) = c ∙ ap (λ k. two ++ f k) third in
    let d' : new ≡ three ++ f (first + 1 + 1 + 1) = d ∙ ap (λ k. three ++ f k) fourth in
    rw (d', c', b, a) (simp (append_assoc, append-nil))

-- three parts in a row
pub three_parts : {A : Type 0} (old one two new a b c : List A) → one ≡ old ++ a → two ≡ one ++ b → new ≡ two ++ c → new ≡ old ++ ((a ++ b) ++ c)
three_parts old one two new a b c first second third =
    third ∙ ap (λ xs. xs ++ c) (second ∙ ap (λ xs. xs ++ b) first ∙ append_assoc old a b) ∙ append_assoc old (a ++ b) c

-- one item for each of a list, one more, and all
pub mapped_at : {A B : Type 0} (f : A → B) (xs : List A) (i : ℕ) (d : A) (old new all : List B) → i < length xs → new ≡ old ++ f (get_or xs i d) ∷ []
    → old ++ map f (drop i xs) ≡ all → new ++ map f (drop (i + 1) xs) ≡ all
mapped_at f xs i d old new all inside more held =
    grown old new (f (get_or xs i d) ∷ []) (map f (drop i xs)) (map f (drop (i + 1) xs)) all more (ap (map f) (drop_more xs i d inside)) held

pub mapped_to_end : {A B : Type 0} (f : A → B) (xs : List A) (i : ℕ) (new all : List B) → length xs ≤ i → new ++ map f (drop i xs) ≡ all → new ≡ all
mapped_to_end f xs i new all past held = sym (append-nil new) ∙ ap (λ rest. new ++ map f rest) (sym (none_left xs i past)) ∙ held

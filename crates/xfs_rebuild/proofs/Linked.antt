-- A list whose items are set one after the other.
use Rattle.std.proofs.Common.{◌≡◌, ℕ, ◌+◌, ◌<◌, List, [], ◌∷◌, ◌++◌, length, map, take, drop, zero, suc, refl, sym, ap, ap₂, ◌∙◌, add-one, arith, get_or, slice_index_or, slice_set}
use Rattle.std.proofs.lemmas.List.{append_assoc}
use Rattle.xfs_space.proofs.OwnedRuns.{from_head}

pub set_next : {X : Type 0} (f : X → X) (i : ℕ) (xs : List X) (x : X) → i < length xs → x ≡ slice_index_or (map f (take i xs) ++ drop i xs) i x
    → slice_set (map f (take i xs) ++ drop i xs) i (f x) ≡ map f (take (suc i) xs) ++ drop (suc i) xs
set_next f i [] x h e = absurd (omega arith)
set_next f zero (y ∷ ys) x h e = ap (λ z. f z ∷ ys) e
set_next f (suc i) (y ∷ ys) x h e = ap (λ r. f y ∷ r) (set_next f i ys x (omega arith) e)

-- what stands at a place that is not yet set
pub not_yet : {X : Type 0} (f : X → X) (i : ℕ) (xs : List X) (d : X) → i < length xs → slice_index_or (map f (take i xs) ++ drop i xs) i d ≡ slice_index_or xs i d
not_yet f i [] d h = absurd (omega arith)
not_yet f zero (y ∷ ys) d h = refl
not_yet f (suc i) (y ∷ ys) d h = not_yet f i ys d (omega arith)

pub of_each : {X : Type 0} (f : X → ℕ) (i : ℕ) (xs : List X) (d : X) → i < length xs → get_or (map f xs) i 0 ≡ f (get_or xs i d)
of_each f i [] d h = absurd (omega arith)
of_each f zero (y ∷ ys) d h = refl
of_each f (suc i) (y ∷ ys) d h = of_each f i ys d (omega arith)

-- one more is set, by what stands for it in a second list
pub set_more : {X : Type 0} (set : X → ℕ → X) (due : X → ℕ) (i : ℕ) (xs now : List X) (dues : List ℕ) (x new : X) → i < length xs
    → now ≡ map (λ (y : X). set y (due y)) (take i xs) ++ drop i xs → dues ≡ map due xs → x ≡ slice_index_or now i x → new ≡ set x (get_or dues i 0)
    → slice_set now i new ≡ map (λ (y : X). set y (due y)) (take (i + 1) xs) ++ drop (i + 1) xs
set_more {X = X} set due i xs now dues x new low held are item is =
    let f = λ (y : X). set y (due y) in
    let here : x ≡ slice_index_or (map f (take i xs) ++ drop i xs) i x = item ∙ ap (λ (ys : List X). slice_index_or ys i x) held in
    let own : get_or dues i 0 ≡ due x = ap (λ (ns : List ℕ). get_or ns i 0) are ∙ of_each due i xs x low ∙ ap due (sym (here ∙ not_yet f i xs x low)) in
    ap₂ (λ (ys : List X) (y : X). slice_set ys i y) held (is ∙ ap (set x) own)
    ∙ set_next f i xs x low here
    ∙ ap (λ (k : ℕ). map f (take k xs) ++ drop k xs) (sym (add-one i))

-- what is due for one item more
pub next_due : {X : Type 0} (due : X → ℕ) (xs : List X) (i : ℕ) (x : X) (dues new whole : List ℕ) (n : ℕ) → i < length xs → x ≡ get_or xs i x → dues ++ map due (drop i xs) ≡ whole
    → n ≡ due x → new ≡ dues ++ n ∷ [] → new ++ map due (drop (i + 1) xs) ≡ whole
next_due due xs i x dues new whole n inside is left own put =
    ap (λ (ns : List ℕ). ns ++ map due (drop (i + 1) xs)) (put ∙ ap (λ (k : ℕ). dues ++ k ∷ []) own)
    ∙ append_assoc dues (due x ∷ []) (map due (drop (i + 1) xs))
    ∙ ap (λ (ns : List ℕ). dues ++ ns) (sym (ap (map due) (from_head xs i x inside is)))
    ∙ left

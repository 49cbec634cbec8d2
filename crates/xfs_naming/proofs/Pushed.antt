-- A list that is made of another, one item after the other.
use Rattle.std.proofs.Common.{◌≡◌, ℕ, ◌+◌, ◌<◌, ◌≤◌, List, [], ◌∷◌, ◌++◌, length, map, get_or, drop, sym, ap, ◌∙◌, append_assoc}
use Rattle.std.proofs.lemmas.List.{drop_more, drop_all, append-nil}

-- one more item
pub pushed : {X Y : Type 0} (f : X → Y) (all : List X) (i : ℕ) (x : X) (y : Y) (old new : List Y) → i < length all → x ≡ get_or all i x → y ≡ f x → new ≡ old ++ y ∷ []
    → old ++ map f (drop i all) ≡ map f all → new ++ map f (drop (i + 1) all) ≡ map f all
pushed f all i x y old new inside item value more held =
    ap (λ ys. ys ++ map f (drop (i + 1) all)) more ∙ append_assoc old (y ∷ []) (map f (drop (i + 1) all))
    ∙ ap (λ z. old ++ z ∷ map f (drop (i + 1) all)) (value ∙ ap f item) ∙ ap (λ xs. old ++ map f xs) (sym (drop_more all i x inside)) ∙ held

-- no item is left
pub pushed_all : {X Y : Type 0} (f : X → Y) (all : List X) (i : ℕ) (made : List Y) → length all ≤ i → made ++ map f (drop i all) ≡ map f all → made ≡ map f all
pushed_all f all i made end held = sym (append-nil made) ∙ ap (λ xs. made ++ map f xs) (sym (drop_all i all end)) ∙ held

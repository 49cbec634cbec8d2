-- A list to which the items of another are added, one after the other.
use Rattle.std.proofs.Common.{◌≡◌, ℕ, ◌+◌, ◌<◌, ◌≤◌, List, [], ◌∷◌, ◌++◌, length, map, get_or, drop, sym, ap, ◌∙◌}
use Rattle.std.proofs.lemmas.List.{append_assoc, append-nil, drop_more, drop_all}

-- one more item
pub pushed : {X Y : Type 0} (f : X → Y) (all : List X) (i : ℕ) (d : X) (y : Y) (old new whole : List Y) → i < length all → y ≡ f (get_or all i d) → new ≡ old ++ y ∷ []
    → old ++ map f (drop i all) ≡ whole → new ++ map f (drop (i + 1) all) ≡ whole
pushed f all i d y old new whole inside value more held =
    ap (λ ys. ys ++ map f (drop (i + 1) all)) more ∙ append_assoc old (y ∷ []) (map f (drop (i + 1) all))
    ∙ ap (λ z. old ++ z ∷ map f (drop (i + 1) all)) value ∙ ap (λ xs. old ++ map f xs) (sym (drop_more all i d inside)) ∙ held

-- no item is left
pub pushed_all : {X Y : Type 0} (f : X → Y) (all : List X) (i : ℕ) (made whole : List Y) → length all ≤ i → made ++ map f (drop i all) ≡ whole → made ≡ whole
pushed_all f all i made whole end held = sym (append-nil made) ∙ ap (λ xs. made ++ map f xs) (sym (drop_all i all end)) ∙ held

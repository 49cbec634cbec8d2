-- Lists as far as a loop has come.
use Rattle.std.proofs.Common.{◌≡◌, ℕ, ◌+◌, ◌<◌, ◌≤◌, Bool, true, false, cond, List, [], ◌∷◌, ◌++◌, length, filter, map, take, drop, get_or, sym, ◌∙◌, ap}
use Rattle.std.proofs.lemmas.List.{append_assoc, append-nil, drop_all, drop_more, take_more}
use Rattle.std.proofs.lemmas.List.Elements.{filter-append}

-- what passes, with one more
module _ {X : Type 0} (f : X → Bool) (xs : List X) (i : ℕ) (d : X) (kept : List X) (inside : i < length xs) (so_far : kept ≡ filter f (take i xs)) where
  split : (t : Bool) → f (get_or xs i d) ≡ t → filter f (take (i + 1) xs) ≡ kept ++ cond t (get_or xs i d ∷ []) []
  split t is =
      ap (filter f) (take_more xs i d inside)
      ∙ filter-append f (take i xs) (get_or xs i d ∷ [])
      ∙ ap (λ ys. ys ++ cond (f (get_or xs i d)) (get_or xs i d ∷ []) []) (sym so_far)
      ∙ ap (λ b. kept ++ cond b (get_or xs i d ∷ []) []) is

  pub filtered_next : f (get_or xs i d) ≡ true → (new : List X) → new ≡ kept ++ get_or xs i d ∷ [] → new ≡ filter f (take (i + 1) xs)
  filtered_next is new put = put ∙ sym (split true is)

  pub filtered_not : f (get_or xs i d) ≡ false → (new : List X) → new ≡ kept → new ≡ filter f (take (i + 1) xs)
  filtered_not is new same = same ∙ sym (split false is ∙ append-nil kept)

-- what is made of each that is left, with one less, and with none
pub mapped_next : {X Y : Type 0} (f : X → Y) (xs : List X) (i : ℕ) (d : X) (old new all : List Y) → i < length xs → new ≡ old ++ f (get_or xs i d) ∷ []
    → old ++ map f (drop i xs) ≡ all → new ++ map f (drop (i + 1) xs) ≡ all
mapped_next f xs i d old new all inside put held =
    ap (λ ys. ys ++ map f (drop (i + 1) xs)) put
    ∙ append_assoc old (f (get_or xs i d) ∷ []) (map f (drop (i + 1) xs))
    ∙ ap (λ ys. old ++ ys) (sym (ap (map f) (drop_more xs i d inside)))
    ∙ held

pub mapped_end : {X Y : Type 0} (f : X → Y) (xs : List X) (i : ℕ) (new all : List Y) → length xs ≤ i → new ++ map f (drop i xs) ≡ all → new ≡ all
mapped_end f xs i new all past held = sym (append-nil new) ∙ ap (λ ys. new ++ map f ys) (sym (drop_all i xs past)) ∙ held

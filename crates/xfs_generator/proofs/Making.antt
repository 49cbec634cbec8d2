-- Lists that are made one place after the other.
use Rattle.std.proofs.Common.{◌≡◌, ℕ, ◌+◌, List, [], ◌∷◌, ◌++◌, map, arith, sym, ap, ◌∙◌}
use Rattle.std.specs.List.{range_with_len}
use Rattle.std.proofs.lemmas.List.FromFn.{map-range_with_len_more}

pub next_made : {A : Type 0} (f : ℕ → A) (k : ℕ) (before after : List A) (x : A) → before ≡ map f (range_with_len 0 k) → after ≡ before ++ x ∷ [] → x ≡ f k
    → after ≡ map f (range_with_len 0 (k + 1))
next_made {A} f k before after x made put is =
    put ∙ ap (λ (xs : List A). xs ++ x ∷ []) made ∙ ap (λ (y : A). map f (range_with_len 0 k) ++ y ∷ []) is ∙ sym (map-range_with_len_more f 0 k k (omega arith))

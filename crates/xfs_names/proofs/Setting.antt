-- A list whose items are set one after the other.
use Rattle.std.proofs.Common.{◌≡◌, ℕ, ◌<◌, List, [], ◌∷◌, ◌++◌, length, map, take, drop, zero, suc, ap, arith, slice_index_or, slice_set}

pub set_next : {X : Type 0} (f : X → X) (i : ℕ) (xs : List X) (x : X) → i < length xs → x ≡ slice_index_or (map f (take i xs) ++ drop i xs) i x
    → slice_set (map f (take i xs) ++ drop i xs) i (f x) ≡ map f (take (suc i) xs) ++ drop (suc i) xs
set_next f i [] x h e = absurd (omega arith)
set_next f zero (y ∷ ys) x h e = ap (λ z. f z ∷ ys) e
set_next f (suc i) (y ∷ ys) x h e = ap (λ r. f y ∷ r) (set_next f i ys x (omega arith) e)

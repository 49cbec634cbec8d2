-- Lists that loops make, one item further.
use Rattle.std.proofs.Common.{◌≡◌, ℕ, ◌+◌, ◌<◌, ◌≤◌, List, [], ◌∷◌, ◌++◌, map, drop, get_or, length, sym, ap, subst, ◌∙◌}
use Rattle.std.proofs.lemmas.List.{append-nil, append_assoc, drop_all, drop_more}
use Rattle.xfs_rename.specs.Settled.{with_number_in_order, with_numbers}

-- one number more at its place, and no more of them
pub numbers_more : (more : List ℕ) (i d : ℕ) (old new all : List ℕ) → i < length more → new ≡ with_number_in_order (get_or more i d) old
    → with_numbers (drop i more) old ≡ all → with_numbers (drop (i + 1) more) new ≡ all
numbers_more more i d old new all inside put held =
    ap (with_numbers (drop (i + 1) more)) put ∙ subst (λ (ns : List ℕ). with_numbers ns old ≡ all) (drop_more more i d inside) held

pub numbers_end : (more : List ℕ) (i : ℕ) (numbers all : List ℕ) → length more ≤ i → with_numbers (drop i more) numbers ≡ all → numbers ≡ all
numbers_end more i numbers all past held = subst (λ (ns : List ℕ). with_numbers ns numbers ≡ all) (drop_all i more past) held

-- what one item more gives, and no more of them
pub mapped_next : {A B : Type 0} (f : A → B) (xs : List A) (i : ℕ) (d : A) (old new all : List B) → i < length xs → new ≡ old ++ f (get_or xs i d) ∷ []
    → old ++ map f (drop i xs) ≡ all → new ++ map f (drop (i + 1) xs) ≡ all
mapped_next {A = A} {B = B} f xs i d old new all inside added held =
    ap (λ (ys : List B). ys ++ map f (drop (i + 1) xs)) added
    ∙ append_assoc old (f (get_or xs i d) ∷ []) (map f (drop (i + 1) xs))
    ∙ subst (λ (ys : List A). old ++ map f ys ≡ all) (drop_more xs i d inside) held

pub mapped_end : {A B : Type 0} (f : A → B) (xs : List A) (i : ℕ) (old all : List B) → length xs ≤ i → old ++ map f (drop i xs) ≡ all → old ≡ all
mapped_end {A = A} f xs i old all past held = sym (append-nil old) ∙ subst (λ (ys : List A). old ++ map f ys ≡ all) (drop_all i xs past) held

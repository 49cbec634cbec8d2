-- Numbers of the items that pass a test, put down item by item.
use Rattle.std.proofs.Common.{◌≡◌, ℕ, ◌+◌, ◌<◌, ◌≤◌, Bool, true, false, if◌then◌else◌, List, [], ◌∷◌, ◌++◌, map, drop, get_or, length, sym, subst, ◌∙◌}
use Rattle.std.specs.List.{filter}
use Rattle.std.proofs.lemmas.List.{append-nil, append_assoc, drop_all, drop_more}

-- one more item, whose number is put behind the others where it passes
pub chosen_more : {A : Type 0} (p : A → Bool) (f : A → ℕ) (xs : List A) (i : ℕ) (d : A) (passes : Bool) (before after whole : List ℕ) → i < length xs → passes ≡ p (get_or xs i d)
    → after ≡ (if passes then before ++ f (get_or xs i d) ∷ [] else before) → before ++ map f (filter p (drop i xs)) ≡ whole → after ++ map f (filter p (drop (i + 1) xs)) ≡ whole
chosen_more {A = A} p f xs i d passes before after whole within is pushed far =
    by_case passes is pushed (subst (λ (ys : List A). before ++ map f (filter p ys) ≡ whole) (drop_more xs i d within) far)
  where
    by_case : (r : Bool) → r ≡ p (get_or xs i d) → after ≡ (if r then before ++ f (get_or xs i d) ∷ [] else before)
        → before ++ map f (filter p (get_or xs i d ∷ drop (i + 1) xs)) ≡ whole → after ++ map f (filter p (drop (i + 1) xs)) ≡ whole
    by_case true does pushed far = rw (pushed, append_assoc) (rw (sym does) at far)
    by_case false fails pushed far = rw pushed (rw (sym fails) at far)

-- past the last item they are all
pub chosen_all : {A : Type 0} (p : A → Bool) (f : A → ℕ) (xs : List A) (i : ℕ) (before whole : List ℕ) → length xs ≤ i → before ++ map f (filter p (drop i xs)) ≡ whole → before ≡ whole
chosen_all {A = A} p f xs i before whole past far =
    sym (append-nil before) ∙ subst (λ (ys : List A). before ++ map f (filter p ys) ≡ whole) (drop_all i xs past) far

-- Lists of what passes a test, made item by item.
use Rattle.std.proofs.Common.{◌≡◌, ℕ, ◌+◌, ◌<◌, ◌≤◌, Bool, true, false, if◌then◌else◌, List, [], ◌∷◌, ◌++◌, filter, drop, get_or, length, sym, ap, subst, ◌∙◌}
use Rattle.std.specs.List.{All}
use Rattle.std.proofs.lemmas.List.{append-nil, append_assoc, drop_all, drop_more}
use Rattle.std.proofs.lemmas.List.Elements.{All-push}

-- one more item, which is put behind the others where it passes
pub filter_more : {A : Type 0} (p : A → Bool) (xs : List A) (i : ℕ) (d : A) (passes : Bool) (before after whole : List A) → i < length xs → passes ≡ p (get_or xs i d)
    → after ≡ before ++ (if passes then get_or xs i d ∷ [] else []) → before ++ filter p (drop i xs) ≡ whole → after ++ filter p (drop (i + 1) xs) ≡ whole
filter_more {A = A} p xs i d passes before after whole within is pushed far =
    by_case passes is pushed (subst (λ (ys : List A). before ++ filter p ys ≡ whole) (drop_more xs i d within) far)
  where
    by_case : (r : Bool) → r ≡ p (get_or xs i d) → after ≡ before ++ (if r then get_or xs i d ∷ [] else [])
        → before ++ filter p (get_or xs i d ∷ drop (i + 1) xs) ≡ whole → after ++ filter p (drop (i + 1) xs) ≡ whole
    by_case true does pushed far = rw (pushed, append_assoc) (rw (sym does) at far)
    by_case false fails pushed far = rw (pushed, append-nil before) (rw (sym fails) at far)

-- past the last item they are all
pub filter_all : {A : Type 0} (p : A → Bool) (xs : List A) (i : ℕ) (before whole : List A) → length xs ≤ i → before ++ filter p (drop i xs) ≡ whole → before ≡ whole
filter_all {A = A} p xs i before whole past far =
    sym (append-nil before) ∙ subst (λ (ys : List A). before ++ filter p ys ≡ whole) (drop_all i xs past) far

-- what holds of those before and of the item holds of those after
pub all_more : {A : Type 0} (P : A → Type 0) (before after : List A) (passes : Bool) (x : A) → All P before → P x → after ≡ before ++ (if passes then x ∷ [] else []) → All P after
all_more P before after true x all here pushed = rw pushed (All-push P before x all here)
all_more P before after false x all here pushed = rw (pushed, append-nil before) all

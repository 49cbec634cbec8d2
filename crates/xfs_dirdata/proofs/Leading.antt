-- A list that is read piece by piece.
use Rattle.std.proofs.Common.{◌≡◌, ◌∙◌, map, ◌++◌, [], ◌∷◌, List, Option, Some, None, refl, sym, ap, append_assoc, Bool}
use Rattle.std.specs.List.{filter}
use Rattle.std.specs.Option.{option_map}
use Rattle.std.proofs.lemmas.List.{append-nil, map-append}
use Rattle.std.proofs.lemmas.List.Elements.{filter-append}

-- what is read, where what stands before it is read already
abbrev pub behind : {X : Type 0} → List X → Option (List X) → Option (List X)
behind done rest = option_map (λ more. done ++ more) rest

-- one more is read
pub behind-more : {X : Type 0} (done : List X) (x : X) (rest : Option (List X)) → behind done (option_map (λ more. x ∷ more) rest) ≡ behind (done ++ x ∷ []) rest
behind-more done x None = refl
behind-more {X = X} done x (Some more) = ap (λ (xs : List X). Some xs) (sym (append_assoc done (x ∷ []) more))

-- before anything is read
pub behind-nothing : {X : Type 0} (rest : Option (List X)) → behind [] rest ≡ rest
behind-nothing None = refl
behind-nothing (Some more) = refl

-- nothing is left to read
pub behind-all : {X : Type 0} (done : List X) → behind done (Some []) ≡ Some done
behind-all {X = X} done = ap (λ (xs : List X). Some xs) (append-nil done)

-- one more of those that pass
pub filtered-more : {X : Type 0} (p : X → Bool) (done old new : List X) (x : X) → old ≡ filter p done → new ≡ old ++ filter p (x ∷ []) → new ≡ filter p (done ++ x ∷ [])
filtered-more {X = X} p done old new x was now = now ∙ (ap (λ (xs : List X). xs ++ filter p (x ∷ [])) was ∙ sym (filter-append p done (x ∷ [])))

pub mapped-more : {X Y : Type 0} (f : X → Y) (p : X → Bool) (done : List X) (old new : List Y) (x : X) → old ≡ map f (filter p done)
    → new ≡ old ++ map f (filter p (x ∷ [])) → new ≡ map f (filter p (done ++ x ∷ []))
mapped-more {X = X} {Y = Y} f p done old new x was now =
    now ∙ (ap (λ (ys : List Y). ys ++ map f (filter p (x ∷ []))) was
    ∙ (sym (map-append f (filter p done) (filter p (x ∷ []))) ∙ ap (map f) (sym (filter-append p done (x ∷ [])))))

-- one that stands before the others
pub behind-cons : {X : Type 0} (x : X) (done : List X) (rest : Option (List X)) → option_map (λ more. x ∷ more) (behind done rest) ≡ behind (x ∷ done) rest
behind-cons x done None = refl
behind-cons x done (Some more) = refl

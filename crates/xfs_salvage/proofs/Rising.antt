-- Files that can claim their blocks, one after the other.
use Rattle.std.proofs.Common.{◌≡◌, ℕ, ◌+◌, ◌<◌, ◌≤◌, ◌↔◌, List, [], ◌∷◌, ◌++◌, length, map, get_or, drop, sym, ap, subst, ◌∙◌, append_assoc, arith}
use Rattle.std.proofs.lemmas.List.{drop_more, drop_all, append-nil}
use Rattle.xfs_geom.specs.Volumes.{Volume}
use Rattle.xfs_volume.specs.declared.files.FileRec.{FileRec}
use Rattle.xfs_salvage.specs.Claimable.{AscendClaiming, CanClaim}

-- a list from one item on
from_item : {A : Type 0} (xs : List A) (i : ℕ) (x : A) → i < length xs → x ≡ get_or xs i x → drop i xs ≡ x ∷ drop (i + 1) xs
from_item xs i x inside is = drop_more xs i x inside ∙ ap (λ y. y ∷ drop (i + 1) xs) (sym is)

module _ (v : Volume) (low i : ℕ) (fs : List FileRec) (left : AscendClaiming v low (drop i fs) ↔ AscendClaiming v 0 fs) where
  pub all_claim : length fs ≤ i → AscendClaiming v 0 fs
  all_claim end = left.0 (subst (AscendClaiming v low) (sym (drop_all i fs end)) tt)

  module _ (f : FileRec) (inside : i < length fs) (is : f ≡ get_or fs i f) where
    pub claims_next : low ≤ f.ino → CanClaim v f → AscendClaiming v (f.ino + 1) (drop (i + 1) fs) ↔ AscendClaiming v 0 fs
    claims_next up can =
        ((λ rest. left.0 (subst (AscendClaiming v low) (sym (from_item fs i f inside is)) (up, can, rest))), λ all. (subst (AscendClaiming v low) (from_item fs i f inside is) (left.1 all)).2)

    pub low_stops : f.ino < low → AscendClaiming v 0 fs → ⊥
    low_stops less all = let up = (subst (AscendClaiming v low) (from_item fs i f inside is) (left.1 all)).0 in absurd (omega (arith, less, up))

    pub other_stops : (CanClaim v f → ⊥) → AscendClaiming v 0 fs → ⊥
    other_stops cannot all = cannot (subst (AscendClaiming v low) (from_item fs i f inside is) (left.1 all)).1

-- one more item is put
pub claim_put : {A B : Type 0} (f : A → B) (xs : List A) (i : ℕ) (x : A) (y : B) (old new : List B) → i < length xs → x ≡ get_or xs i x → y ≡ f x → new ≡ old ++ y ∷ []
    → old ++ map f (drop i xs) ≡ map f xs → new ++ map f (drop (i + 1) xs) ≡ map f xs
claim_put f xs i x y old new inside is made put held =
    ap (λ ys. ys ++ map f (drop (i + 1) xs)) put ∙ append_assoc old (y ∷ []) (map f (drop (i + 1) xs))
    ∙ ap (λ z. old ++ z ∷ map f (drop (i + 1) xs)) made ∙ ap (λ ys. old ++ map f ys) (sym (from_item xs i x inside is)) ∙ held

pub all_put : {A B : Type 0} (f : A → B) (xs : List A) (i : ℕ) (made : List B) → length xs ≤ i → made ++ map f (drop i xs) ≡ map f xs → made ≡ map f xs
all_put f xs i made end held = sym (append-nil made) ∙ ap (λ ys. made ++ map f ys) (sym (drop_all i xs end)) ∙ held

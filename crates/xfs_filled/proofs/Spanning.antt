-- The runs of each file among those of all.
use Rattle.std.proofs.Common.{◌≡◌, ◌≢◌, ℕ, zero, suc, ◌==◌, ◌<◌, true, false, List, [], ◌∷◌, ◌++◌, length, take, drop, get_or, arith, refl, sym, subst, ap, ap₂, ◌∙◌, append-nil}
use Rattle.std.specs.List.{All}
use Rattle.std.proofs.lemmas.Bool.{eq-eqb, ne_eqb}
use Rattle.std.proofs.lemmas.List.{take-append-drop}
use Rattle.std.proofs.lemmas.List.Elements.{All-append, filter-append}
use Rattle.xfs_geom.specs.Volumes.{Volume}
use Rattle.xfs_geom.specs.declared.records.Run.{Run}
use Rattle.xfs_filled.specs.Forks.{owned_by}
use Rattle.xfs_filled.specs.Numbers.{number_of}
use Rattle.xfs_filled.specs.Spans.{AreRunsOf}

-- a run is none of an owner's
abbrev pub IsOther : ℕ → Run → Type 0
IsOther owner r = r.owner ≢ owner

pub all_owned : (owner : ℕ) (runs : List Run) → All (λ (r : Run). r.owner ≡ owner) runs → owned_by owner runs ≡ runs
all_owned owner [] all = refl
all_owned owner (r ∷ runs) all =
    let own : (r.owner == owner) ≡ true = eq-eqb r.owner owner (all zero r (omega arith)) in
    rw own (ap (λ (rs : List Run). r ∷ rs) (all_owned owner runs (λ k d low. all (suc k) d (omega (arith, low)))))

pub none_owned : (owner : ℕ) (runs : List Run) → All (IsOther owner) runs → owned_by owner runs ≡ []
none_owned owner [] all = refl
none_owned owner (r ∷ runs) all =
    let other : (r.owner == owner) ≡ false = ne_eqb r.owner owner (all zero r (omega arith)) in
    rw other (none_owned owner runs (λ k d low. all (suc k) d (omega (arith, low))))

-- the runs of an owner are those between two others
pub owned_between : (owner : ℕ) (front own back : List Run) → All (IsOther owner) front → All (λ (r : Run). r.owner ≡ owner) own → All (IsOther owner) back
    → owned_by owner (front ++ (own ++ back)) ≡ own
owned_between owner front own back before all behind =
    filter-append (λ (r : Run). r.owner == owner) front (own ++ back)
    ∙ ap₂ (λ (xs ys : List Run). xs ++ ys) (none_owned owner front before)
    (filter-append (λ (r : Run). r.owner == owner) own back ∙ ap₂ (λ (xs ys : List Run). xs ++ ys) (all_owned owner own all) (none_owned owner back behind) ∙ append-nil own)

-- the runs of files are none of another's
pub others_in : (v : Volume) (starts : List ℕ) (owner : ℕ) (places : List ℕ) (runs : List Run) → AreRunsOf v starts places runs
    → ((j d : ℕ) → j < length places → number_of v starts (get_or places j d) ≢ owner) → All (IsOther owner) runs
others_in v starts owner [] runs are differ = subst (All (IsOther owner)) (sym are) (λ k d low. absurd (omega (arith, low)))
others_in v starts owner (k ∷ ks) runs are differ =
    let n = are.0 in
    let first : All (IsOther owner) (take n runs) = λ m d low same. differ zero k (omega arith) (sym (are.2 m d low) ∙ same) in
    let rest : All (IsOther owner) (drop n runs) = others_in v starts owner ks (drop n runs) are.4 (λ j d low. differ (suc j) d (omega (arith, low))) in
    subst (All (IsOther owner)) (take-append-drop n runs) (All-append (IsOther owner) (take n runs) (drop n runs) first rest)

-- Places of which no two are one, in rows and joined.
use Rattle.std.proofs.Common.{◌≡◌, ℕ, ◌+◌, ◌-◌, ◌==◌, true, false, not, List, [], ◌∷◌, ◌++◌, length, take, drop, get_or, refl, sym, ◌∙◌, ap, subst, arith}
use Rattle.std.proofs.lemmas.Bool.{and_parts, and_from, not-true, not_from_false, or_parts, or_from}
use Rattle.std.proofs.lemmas.Bool.Decides.{nat_tests}
use Rattle.std.proofs.lemmas.List.{append_assoc, append-nil, length-append, get_or_at, take-append-drop}
use Rattle.std.proofs.lemmas.List.Sorted.{IsPermutation-refl, IsPermutation-append_comm, IsPermutation-append_left, IsPermutation-trans}
use Rattle.std.proofs.lemmas.Map.Keys.{IsDistinct-IsPermutation}
use Rattle.std.specs.List.{flat_map, list_any, AllByRecursion, IsDistinct}
use Rattle.std.specs.List.Sorted.{IsPermutation}
use Rattle.xfs_treebuild.specs.Packing.{top_down, root_of, are_different}

-- the rows joined, the leaves first
abbrev pub joined : List (List ℕ) → List ℕ
joined rows = flat_map (λ row. row) rows

pub all_front : {X : Type 0} (P : X → Type 0) (xs ys : List X) → AllByRecursion P (xs ++ ys) → AllByRecursion P xs
all_front P [] ys h = tt
all_front P (x ∷ xs) ys h = (h.0, all_front P xs ys h.1)

pub all_back : {X : Type 0} (P : X → Type 0) (xs ys : List X) → AllByRecursion P (xs ++ ys) → AllByRecursion P ys
all_back P [] ys h = h
all_back P (x ∷ xs) ys h = all_back P xs ys h.1

flipped : (a b : ℕ) → (a == b) ≡ (b == a)
flipped a b = grind (arith, nat_tests)

none_again : (place : ℕ) (places : List ℕ) → list_any (λ other. other == place) places ≡ false → AllByRecursion (λ other. (place == other) ≡ false) places
none_again place [] h = tt
none_again place (other ∷ places) h =
    let parts = or_parts (other == place) (list_any (λ b. b == place) places) h in
    (flipped place other ∙ parts.0, none_again place places parts.1)

pub distinct_from_different : (places : List ℕ) → are_different places ≡ true → IsDistinct ◌==◌ places
unfolding IsDistinct
distinct_from_different [] h = tt
distinct_from_different (place ∷ places) h =
    let met = list_any (λ other. other == place) places in
    let parts = and_parts (not met) (are_different places) h in
    (none_again place places (not-true met parts.0), distinct_from_different places parts.1)

-- the way back, for a caller who knows his places by another order
none_alike : (place : ℕ) (places : List ℕ) → AllByRecursion (λ other. (place == other) ≡ false) places → list_any (λ other. other == place) places ≡ false
none_alike place [] h = refl
none_alike place (other ∷ places) h =
    or_from (other == place) (list_any (λ b. b == place) places) (flipped other place ∙ h.0) (none_alike place places h.1)

pub different_from_distinct : (places : List ℕ) → IsDistinct ◌==◌ places → are_different places ≡ true
unfolding IsDistinct
different_from_distinct [] h = refl
different_from_distinct (place ∷ places) h =
    let met = list_any (λ other. other == place) places in
    and_from (not met) (are_different places) (not_from_false met (none_alike place places h.0)) (different_from_distinct places h.1)

pub distinct_front : (xs ys : List ℕ) → IsDistinct ◌==◌ (xs ++ ys) → IsDistinct ◌==◌ xs
unfolding IsDistinct
distinct_front [] ys h = tt
distinct_front (x ∷ xs) ys h = (all_front (λ y. (x == y) ≡ false) xs ys h.0, distinct_front xs ys h.1)

-- the first of different places differ
pub different_take : (n : ℕ) (places : List ℕ) → are_different places ≡ true → are_different (take n places) ≡ true
different_take n places h =
    different_from_distinct (take n places)
    (distinct_front (take n places) (drop n places) (subst (IsDistinct ◌==◌) (sym (take-append-drop n places)) (distinct_from_different places h)))

-- a place is none of those in front of it
pub not_met : (met : List ℕ) (place : ℕ) (later : List ℕ) → IsDistinct ◌==◌ (met ++ place ∷ later) → list_any (λ block. block == place) met ≡ false
unfolding IsDistinct
not_met [] place later h = refl
not_met (block ∷ met) place later h =
    let rest = all_back (λ y. (block == y) ≡ false) met (place ∷ later) h.0 in
    or_from (block == place) (list_any (λ b. b == place) met) rest.0 (not_met met place later h.1)

-- the rows from the root down are those from the leaves up, in another order
pub turned : (rows : List (List ℕ)) → IsPermutation (joined rows) (top_down rows)
turned [] = IsPermutation-refl []
turned (row ∷ rows) =
    IsPermutation-trans (row ++ joined rows) (joined rows ++ row) (top_down rows ++ row)
    (IsPermutation-append_comm row (joined rows)) (IsPermutation-append_left row (joined rows) (top_down rows) (turned rows))

pub distinct_turned : (rows : List (List ℕ)) → IsDistinct ◌==◌ (joined rows) → IsDistinct ◌==◌ (top_down rows)
distinct_turned rows h = IsDistinct-IsPermutation ◌==◌ flipped (joined rows) (top_down rows) (turned rows) h

-- the row above all, of a row and those above it
abbrev pub last_row : List ℕ → List (List ℕ) → List ℕ
last_row row [] = row
last_row row (above ∷ rows) = last_row above rows

-- it stands behind all others
ends : (row : List ℕ) (rows : List (List ℕ)) → (front : List ℕ) × (joined (row ∷ rows) ≡ front ++ last_row row rows)
ends row [] = ([], append-nil row)
ends row (above ∷ rows) =
    let behind = ends above rows in
    (row ++ behind.0, ap (λ places. row ++ places) behind.1 ∙ sym (append_assoc row behind.0 (last_row above rows)))

last_is : (front : List ℕ) (root : ℕ) (places : List ℕ) → places ≡ front ++ root ∷ [] → root_of places ≡ root
last_is front root places split =
    let one : length places ≡ length front + 1 = ap length split ∙ length-append front (root ∷ []) in
    let at : length front ≡ length places - 1 = omega (arith, one) in
    ap (λ (xs : List ℕ). get_or xs (length places - 1) 0) split ∙ get_or_at front root [] 0 (length places - 1) at

single : (places : List ℕ) → length places ≡ 1 → places ≡ get_or places 0 0 ∷ []
single [] h = absurd (omega (arith, h))
single (place ∷ []) h = refl
single (place ∷ next ∷ places) h = absurd (omega (arith, h))

-- where the last row is one block, that block is the last of all
pub root_alone : (row : List ℕ) (rows : List (List ℕ)) → length (last_row row rows) ≡ 1 → last_row row rows ≡ root_of (joined (row ∷ rows)) ∷ []
root_alone row rows one =
    let behind = ends row rows in
    let root = get_or (last_row row rows) 0 0 in
    let only : last_row row rows ≡ root ∷ [] = single (last_row row rows) one in
    let is : root_of (joined (row ∷ rows)) ≡ root =
    last_is behind.0 root (joined (row ∷ rows)) (behind.1 ∙ ap (λ (xs : List ℕ). behind.0 ++ xs) only) in
    only ∙ ap (λ (n : ℕ). n ∷ []) (sym is)

-- Sums over numbers that ascend, and over what has such numbers.
use Rattle.std.proofs.Common.{◌≡◌, ◌⊎◌, inl, inr, ℕ, Bool, cond, ◌+◌, ◌≤◌, ◌<◌, ◌==◌, List, [], ◌∷◌, map, filter, refl, ap, ◌∙◌, subst, arith}
use Rattle.std.specs.List.{flat_map, sum_by}
use Rattle.std.proofs.lemmas.Bool.{cases_lt, eq-eqb, ne_eqb}
use Rattle.std.proofs.lemmas.List.Sums.{sum_by-append, sum_by-cons}
use Rattle.xfs_geom.specs.declared.records.Run.{Run}
use Rattle.xfs_naming.specs.Naming.{NumbersAscend}
use Rattle.xfs_views.proofs.Members.{Member, member_map}

pub side : (y x : ℕ) → (y < x) ⊎ ((y ≡ x) ⊎ (x + 1 ≤ y))
side y x = elim (cases_lt y x) [
  | inl less ↦ inl less
  | inr more ↦ elim (cases_lt x y) [ inl above ↦ inr (inr (omega (arith, above))) | inr upto ↦ inr (inl (omega (arith, more, upto))) ]
]

pub all_above : (low : ℕ) (ns : List ℕ) (n : ℕ) → NumbersAscend low ns → Member n ns → low ≤ n
all_above low [] n up is = absurd is
all_above low (m ∷ ns) n up is =
    let first = up.0 in
    elim is [
      | inl same ↦ omega (arith, first, same)
      | inr there ↦ let more = all_above (m + 1) ns n up.1 there in omega (arith, first, more)
    ]

-- numbers that add nothing may be left out
module _ (F : ℕ → ℕ) where
  pub sum_same : (low : ℕ) (xs ys : List ℕ) → NumbersAscend low xs → NumbersAscend low ys → ((y : ℕ) → Member y ys → Member y xs)
      → ((x : ℕ) → Member x xs → (Member x ys → ⊥) → F x ≡ 0) → sum_by F xs ≡ sum_by F ys
  sum_same low [] [] up up' each none = refl
  sum_same low [] (y ∷ ys) up up' each none = absurd (each y (inl refl))
  sum_same low (x ∷ xs) [] up up' each none =
      let head = sum_by-cons F x xs in
      let nothing = none x (inl refl) (λ is. is) in
      let rest : sum_by F xs ≡ 0 = sum_same (x + 1) xs [] up.1 tt (λ z is. absurd is) (λ z is off. none z (inr is) off) in
      omega (arith, head, nothing, rest)
  sum_same low (x ∷ xs) (y ∷ ys) up up' each none =
      elim (side y x) [
        | inl less ↦ elim (each y (inl refl)) [
          | inl same ↦ absurd (omega (arith, less, same))
          | inr there ↦ let above = all_above (x + 1) xs y up.1 there in absurd (omega (arith, less, above))
        ]
        | inr more ↦ elim more [
          | inl same ↦
              let behind : NumbersAscend (x + 1) ys = subst (λ (m : ℕ). NumbersAscend (m + 1) ys) same up'.1 in
              let rest = sum_same (x + 1) xs ys up.1 behind
              (λ z is. elim (each z (inr is)) [ inl own ↦ let above = all_above (x + 1) ys z behind is in absurd (omega (arith, own, above)) | inr there ↦ there ])
              (λ z is off. none z (inr is) (λ has. elim has [ inl own ↦ let above = all_above (x + 1) xs z up.1 is in absurd (omega (arith, own, above, same)) | inr there ↦ off there ])) in
              let one = sum_by-cons F x xs in
              let two = sum_by-cons F y ys in
              let equal : F y ≡ F x = ap F same in
              omega (arith, rest, one, two, equal)
          | inr above ↦
              let behind : NumbersAscend (x + 1) (y ∷ ys) = (above, up'.1) in
              let rest = sum_same (x + 1) xs (y ∷ ys) up.1 behind
              (λ z is. elim (each z is) [ inl own ↦ let low_z = all_above (x + 1) (y ∷ ys) z behind is in absurd (omega (arith, own, low_z)) | inr there ↦ there ])
              (λ z is off. none z (inr is) off) in
              let one = sum_by-cons F x xs in
              let nothing = none x (inl refl) (λ is. let low_x = all_above (x + 1) (y ∷ ys) x behind is in omega (arith, low_x)) in
              omega (arith, rest, one, nothing)
        ]
      ]

pub sum_flat : {X : Type 0} (f : Run → ℕ) (h : X → List Run) (xs : List X) → sum_by f (flat_map h xs) ≡ sum_by (λ x. sum_by f (h x)) xs
sum_flat f h [] = refl
sum_flat f h (x ∷ xs) =
    let both = sum_by-append f (h x) (flat_map h xs) in
    let rest = sum_flat f h xs in
    let one = sum_by-cons (λ y. sum_by f (h y)) x xs in
    omega (arith, both, rest, one)

pub sum_mapped : {X Y : Type 0} (F : Y → ℕ) (h : X → Y) (xs : List X) → sum_by F (map h xs) ≡ sum_by (λ x. F (h x)) xs
sum_mapped F h [] = refl
sum_mapped F h (x ∷ xs) =
    let whole = sum_by-cons F (h x) (map h xs) in
    let rest = sum_mapped F h xs in
    let one = sum_by-cons (λ y. F (h y)) x xs in
    omega (arith, whole, rest, one)

pub sum_each : {X : Type 0} (F G : X → ℕ) (xs : List X) → ((x : X) → Member x xs → F x ≡ G x) → sum_by F xs ≡ sum_by G xs
sum_each F G [] same = refl
sum_each F G (x ∷ xs) same =
    let one = sum_by-cons F x xs in
    let other = sum_by-cons G x xs in
    let here = same x (inl refl) in
    let rest = sum_each F G xs (λ y is. same y (inr is)) in
    omega (arith, one, other, here, rest)

pub sum_two : {X : Type 0} (A B : X → ℕ) (xs : List X) → sum_by (λ x. A x + B x) xs ≡ sum_by A xs + sum_by B xs
sum_two A B [] = refl
sum_two A B (x ∷ xs) =
    let whole = sum_by-cons (λ y. A y + B y) x xs in
    let one = sum_by-cons A x xs in
    let other = sum_by-cons B x xs in
    let rest = sum_two A B xs in
    omega (arith, whole, one, other, rest)

-- the one item with a number, and none
pub none_at : {X : Type 0} (number : X → ℕ) (n : ℕ) (xs : List X) → (Member n (map number xs) → ⊥) → filter (λ (y : X). number y == n) xs ≡ []
none_at number n [] off = refl
none_at {X} number n (y ∷ ys) off =
    ap (λ (t : Bool). cond t (y ∷ filter (λ (z : X). number z == n) ys) (filter (λ (z : X). number z == n) ys)) (ne_eqb (number y) n (λ same. off (inl same)))
    ∙ none_at number n ys (λ is. off (inr is))

pub one_at : {X : Type 0} (number : X → ℕ) (low : ℕ) (x : X) (xs : List X) → NumbersAscend low (map number xs) → Member x xs → filter (λ (y : X). number y == number x) xs ≡ x ∷ []
one_at number low x [] up is = absurd is
one_at {X} number low x (y ∷ ys) up is =
    elim is [
      | inl same ↦ subst (λ (z : X). filter (λ (a : X). number a == number z) (y ∷ ys) ≡ z ∷ []) same
          (ap (λ (t : Bool). cond t (y ∷ filter (λ (z : X). number z == number y) ys) (filter (λ (z : X). number z == number y) ys)) (eq-eqb (number y) (number y) refl)
          ∙ ap (λ (zs : List X). y ∷ zs)
          (none_at number (number y) ys (λ there. let above = all_above (number y + 1) (map number ys) (number y) up.1 there in omega (arith, above))))
      | inr there ↦
          let above = all_above (number y + 1) (map number ys) (number x) up.1 (member_map number x ys there) in
          ap (λ (t : Bool). cond t (y ∷ filter (λ (z : X). number z == number x) ys) (filter (λ (z : X). number z == number x) ys)) (ne_eqb (number y) (number x) (λ same. omega (arith, same, above)))
          ∙ one_at number (number y + 1) x ys up.1 there
    ]

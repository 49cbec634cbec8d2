-- What a list has, by recursion on the list.
use Rattle.std.proofs.Common.{◌≡◌, ℕ, zero, suc, Bool, true, false, cond, ◌+◌, ◌≤◌, ◌<◌, ◌⊎◌, inl, inr, nat_lt, List, [], ◌∷◌, ◌++◌, map, length, slice_index_or, refl, sym, ◌∙◌, ap, subst, arith}
use Rattle.std.specs.List.{AllByRecursion, Contains, filter, flat_map, list_any, range_with_len}
use Rattle.std.proofs.lemmas.Bool.{cases_eq, false≢true, or_cases, or_left, or_right}
use Rattle.xfs_claims.specs.Ranks.{by_number, placed_by_number}

abbrev pub Member : {X : Type 0} → X → List X → Type 0
Member x [] = ⊥
Member x (y ∷ ys) = (y ≡ x) ⊎ Member x ys

pub contained : {X : Type 0} (x : X) (xs : List X) → Contains xs x → Member x xs
contained x [] has = absurd (omega (arith, has.1))
contained {X = X} x (y ∷ ys) has = from (contained x ys) has.0 has.1 has.2
  where
    from : (Contains ys x → Member x ys) → (k : ℕ) → k < length (y ∷ ys) → slice_index_or (y ∷ ys) k x ≡ x → Member x (y ∷ ys)
    from rest zero inside is = inl is
    from rest (suc k) inside is = inr (rest (k, omega (arith, inside), is))

pub contains : {X : Type 0} (x : X) (xs : List X) → Member x xs → Contains xs x
contains x [] is = absurd is
contains x (y ∷ ys) is =
    elim is [
      | inl same ↦ (0, omega arith, same)
      | inr there ↦ let rest = contains x ys there in let inside = rest.1 in (suc rest.0, omega (arith, inside), rest.2)
    ]

pub member_all : {X : Type 0} (P : X → Type 0) (x : X) (xs : List X) → AllByRecursion P xs → Member x xs → P x
member_all P x [] all is = absurd is
member_all P x (y ∷ ys) all is = elim is [ inl same ↦ subst P same all.0 | inr there ↦ member_all P x ys all.1 there ]

pub member_any : {X : Type 0} (test : X → Bool) (x : X) (xs : List X) → Member x xs → test x ≡ true → list_any test xs ≡ true
member_any test x [] is passes = absurd is
member_any test x (y ∷ ys) is passes =
    elim is [
      | inl same ↦ or_left (test y) (list_any test ys) (ap test same ∙ passes)
      | inr there ↦ or_right (test y) (list_any test ys) (member_any test x ys there passes)
    ]

-- what passes a test that one of a list passes
pub any_member : {X : Type 0} (test : X → Bool) (xs : List X) → list_any test xs ≡ true → (x : X) × Member x xs × (test x ≡ true)
any_member test [] found = absurd (false≢true found)
any_member test (y ∷ ys) found =
    elim (or_cases (test y) (list_any test ys) found) [
      | inl here ↦ (y, inl refl, here)
      | inr there ↦ let rest = any_member test ys there in (rest.0, inr rest.1, rest.2)
    ]

pub member_filter : {X : Type 0} (test : X → Bool) (x : X) (xs : List X) → Member x xs → test x ≡ true → Member x (filter test xs)
member_filter test x [] is passes = absurd is
member_filter {X = X} test x (y ∷ ys) is passes =
    elim is [
      | inl same ↦ here (test y) (ap test same ∙ passes) same
      | inr there ↦ behind (test y) (member_filter test x ys there passes)
    ]
  where
    here : (t : Bool) → t ≡ true → y ≡ x → Member x (cond t (y ∷ filter test ys) (filter test ys))
    here true e same = inl same
    here false e same = absurd (false≢true e)

    behind : (t : Bool) → Member x (filter test ys) → Member x (cond t (y ∷ filter test ys) (filter test ys))
    behind true rest = inr rest
    behind false rest = rest

pub filter_member : {X : Type 0} (test : X → Bool) (x : X) (xs : List X) → Member x (filter test xs) → Member x xs × (test x ≡ true)
filter_member test x [] is = absurd is
filter_member {X = X} test x (y ∷ ys) is = either (filter_member test x ys) (test y) refl is
  where
    either : (Member x (filter test ys) → Member x ys × (test x ≡ true)) → (t : Bool) → test y ≡ t
        → Member x (cond t (y ∷ filter test ys) (filter test ys)) → Member x (y ∷ ys) × (test x ≡ true)
    either behind true e h =
        elim h [
          | inl same ↦ (inl same, ap test (sym same) ∙ e)
          | inr there ↦ let rest = behind there in (inr rest.0, rest.1)
        ]
    either behind false e h = let rest = behind h in (inr rest.0, rest.1)

pub member_map : {X Y : Type 0} (f : X → Y) (x : X) (xs : List X) → Member x xs → Member (f x) (map f xs)
member_map f x [] is = is
member_map f x (y ∷ ys) is = elim is [ inl same ↦ inl (ap f same) | inr there ↦ inr (member_map f x ys there) ]

pub map_member : {X Y : Type 0} (f : X → Y) (y : Y) (xs : List X) → Member y (map f xs) → (x : X) × Member x xs × (f x ≡ y)
map_member f y [] is = absurd is
map_member f y (x ∷ xs) is =
    elim is [
      | inl same ↦ (x, inl refl, same)
      | inr there ↦ let rest = map_member f y xs there in (rest.0, inr rest.1, rest.2)
    ]

pub member_left : {X : Type 0} (x : X) (xs ys : List X) → Member x xs → Member x (xs ++ ys)
member_left x [] ys is = absurd is
member_left x (z ∷ xs) ys is = elim is [ inl same ↦ inl same | inr there ↦ inr (member_left x xs ys there) ]

pub member_right : {X : Type 0} (x : X) (xs ys : List X) → Member x ys → Member x (xs ++ ys)
member_right x [] ys is = is
member_right x (z ∷ xs) ys is = inr (member_right x xs ys is)

pub member_either : {X : Type 0} (x : X) (xs ys : List X) → Member x (xs ++ ys) → Member x xs ⊎ Member x ys
member_either x [] ys is = inr is
member_either x (z ∷ xs) ys is =
    elim is [
      | inl same ↦ inl (inl same)
      | inr there ↦ elim (member_either x xs ys there) [ inl a ↦ inl (inr a) | inr b ↦ inr b ]
    ]

pub member_flat : {X Y : Type 0} (f : X → List Y) (x : X) (y : Y) (xs : List X) → Member x xs → Member y (f x) → Member y (flat_map f xs)
member_flat f x y [] is of = absurd is
member_flat {Y = Y} f x y (z ∷ xs) is of =
    elim is [
      | inl same ↦ member_left y (f z) (flat_map f xs) (subst (λ (ys : List Y). Member y ys) (sym (ap f same)) of)
      | inr there ↦ member_right y (f z) (flat_map f xs) (member_flat f x y xs there of)
    ]

pub flat_member : {X Y : Type 0} (f : X → List Y) (y : Y) (xs : List X) → Member y (flat_map f xs) → (x : X) × Member x xs × Member y (f x)
flat_member f y [] is = absurd is
flat_member f y (x ∷ xs) is =
    elim (member_either y (f x) (flat_map f xs) is) [
      | inl here ↦ (x, inl refl, here)
      | inr there ↦ let rest = flat_member f y xs there in (rest.0, inr rest.1, rest.2)
    ]

-- an order keeps what a list has
placed_here : {X : Type 0} (number : X → ℕ) (x : X) (ys : List X) → Member x (placed_by_number number x ys)
placed_here number x [] = inl refl
placed_here {X = X} number x (y ∷ ys) = either (nat_lt (number y) (number x)) (placed_here number x ys)
  where
    either : (t : Bool) → Member x (placed_by_number number x ys) → Member x (cond t (y ∷ placed_by_number number x ys) (x ∷ y ∷ ys))
    either true rest = inr rest
    either false rest = inl refl

placed_there : {X : Type 0} (number : X → ℕ) (z x : X) (ys : List X) → Member z ys → Member z (placed_by_number number x ys)
placed_there number z x [] is = absurd is
placed_there {X = X} number z x (y ∷ ys) is = either (nat_lt (number y) (number x)) (placed_there number z x ys)
  where
    either : (t : Bool) → (Member z ys → Member z (placed_by_number number x ys)) → Member z (cond t (y ∷ placed_by_number number x ys) (x ∷ y ∷ ys))
    either true rest = elim is [ inl same ↦ inl same | inr there ↦ inr (rest there) ]
    either false rest = inr is

pub member_order : {X : Type 0} (number : X → ℕ) (x : X) (xs : List X) → Member x xs → Member x (by_number number xs)
member_order number x [] is = is
member_order {X = X} number x (y ∷ ys) is =
    elim is [
      | inl same ↦ subst (λ (z : X). Member x (placed_by_number number z (by_number number ys))) (sym same) (placed_here number x (by_number number ys))
      | inr there ↦ placed_there number x y (by_number number ys) (member_order number x ys there)
    ]

-- numbers in a row
pub member_row : (x k n : ℕ) → k ≤ x → x < k + n → Member x (range_with_len k n)
member_row x k zero low high = absurd (omega (arith, low, high))
member_row x k (suc n) low high =
    elim (cases_eq k x) [
      | inl same ↦ inl same
      | inr other ↦ inr (member_row x (k + 1) n (omega (arith, low, other)) (omega (arith, high)))
    ]

pub record IsInRow (x k n : ℕ) : Type 0 where
  pub low : k ≤ x
  pub high : x < k + n

pub row_member : (x k n : ℕ) → Member x (range_with_len k n) → IsInRow x k n
row_member x k zero is = absurd is
row_member x k (suc n) is =
    elim is [
      | inl same ↦ record { low = omega (arith, same); high = omega (arith, same) }
      | inr there ↦ let rest = row_member x (k + 1) n there in record { low = omega (arith, rest.low); high = omega (arith, rest.high) }
    ]

-- what holds of each that a list has
pub all_members : {X : Type 0} (P : X → Type 0) (xs : List X) → ((x : X) → Member x xs → P x) → AllByRecursion P xs
all_members P [] each = tt
all_members P (x ∷ xs) each = (each x (inl refl), all_members P xs (λ y is. each y (inr is)))

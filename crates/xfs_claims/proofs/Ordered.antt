-- The list that a sort by different numbers gives is one: that of the definition.
use Rattle.std.proofs.Common.{◌≡◌, ℕ, suc, Bool, true, false, cond, ◌+◌, ◌≤◌, ◌<◌, ◌⊎◌, inl, inr, ◌||◌, ◌==◌, nat_lt, List, [], ◌∷◌, map, refl, sym, ◌∙◌, ap, ap₂, arith}
use Rattle.std.specs.List.{list_any, filter, AllByRecursion, sum_by}
use Rattle.std.specs.List.{IsDistinct}
use Rattle.std.specs.List.Sorted.{IsPermutation, IsNonDecreasingBy}
use Rattle.std.proofs.lemmas.List.Sorted.{All-permutation, IsPermutation-sym}
use Rattle.std.proofs.lemmas.List.Elements.{All-from_recursion, recursion_from_All}
use Rattle.std.proofs.lemmas.List.Sums.{sum_by-cons}
use Rattle.std.proofs.lemmas.Map.Keys.{IsDistinct-IsPermutation}
use Rattle.std.proofs.lemmas.Bool.{cases_lt, or_parts, or_from, eqb-false}
use Rattle.std.proofs.lemmas.Bool.Decides.{nat_tests}
use Rattle.xfs_claims.specs.Ranks.{placed_by_number, by_number, AreDifferent}

each_weaker : {X : Type 0} (P Q : X → Type 0) → ((x : X) → P x → Q x) → (xs : List X) → AllByRecursion P xs → AllByRecursion Q xs
each_weaker P Q f [] h = tt
each_weaker P Q f (x ∷ xs) h = (f x h.0, each_weaker P Q f xs h.1)

each_both : {X : Type 0} (P Q R : X → Type 0) → ((x : X) → P x → Q x → R x) → (xs : List X) → AllByRecursion P xs → AllByRecursion Q xs → AllByRecursion R xs
each_both P Q R f [] h k = tt
each_both P Q R f (x ∷ xs) h k = (f x h.0 k.0, each_both P Q R f xs h.1 k.1)

-- the numbers go up, and no two are one
abbrev pub Ascend : {X : Type 0} → (X → ℕ) → List X → Type 0
Ascend number [] = Unit {0}
Ascend number (x ∷ xs) = AllByRecursion (λ y. number x < number y) xs × Ascend number xs

-- the numbers do not go down
abbrev pub Rise : {X : Type 0} → (X → ℕ) → List X → Type 0
Rise number [] = Unit {0}
Rise number (x ∷ xs) = AllByRecursion (λ y. number x ≤ number y) xs × Rise number xs

-- what holds of each of one list holds of each of the other
abbrev Covers : {X : Type 0} → List X → List X → Type 1
Covers {X = X} xs ys = (P : X → Type 0) → AllByRecursion P xs → AllByRecursion P ys

head_of : {X : Type 0} (number : X → ℕ) (x y : X) (xs ys : List X) → Ascend number (y ∷ ys) → Covers (y ∷ ys) (x ∷ xs) → (x ≡ y) ⊎ (number y < number x)
head_of {X = X} number x y xs ys up from =
    let P : X → Type 0 = λ z. (z ≡ y) ⊎ (number y < number z) in
    let later : AllByRecursion P ys = each_weaker (λ z. number y < number z) P (λ z h. inr h) ys up.0 in
    (from P (inl refl, later)).0

tail_of : {X : Type 0} (number : X → ℕ) (x y : X) (xs ys : List X) → x ≡ y → Ascend number (y ∷ ys) → Covers (x ∷ xs) (y ∷ ys) → Covers xs ys
tail_of {X = X} number x y xs ys same up to = λ P each.
    let W : X → Type 0 = λ z. (z ≡ x) ⊎ P z in
    let rest : AllByRecursion W xs = each_weaker P W (λ z h. inr h) xs each in
    let all : AllByRecursion W ys = (to W (inl refl, rest)).1 in
    each_both (λ z. number y < number z) W P
    (λ z lt h. elim h [
      | inl is ↦ let e : number z ≡ number y = ap number (is ∙ same) in absurd (omega (arith, lt, e))
      | inr p ↦ p
    ]) ys up.0 all

pub same_list : {X : Type 0} (number : X → ℕ) (xs ys : List X) → Ascend number xs → Ascend number ys → Covers xs ys → Covers ys xs → xs ≡ ys
same_list number [] [] a b to from = refl
same_list number [] (y ∷ ys) a b to from = absurd ((to (λ _. ⊥) tt).0)
same_list number (x ∷ xs) [] a b to from = absurd ((from (λ _. ⊥) tt).0)
same_list {X = X} number (x ∷ xs) (y ∷ ys) a b to from =
    let heads : x ≡ y =
    elim (head_of number x y xs ys b from) [
      | inl e ↦ e
      | inr lt ↦ elim (head_of number y x ys xs a to) [
        | inl e ↦ sym e
        | inr gt ↦ absurd (omega (arith, lt, gt))
      ]
    ] in
    let rest = same_list number xs ys a.1 b.1 (tail_of number x y xs ys heads b to) (tail_of number y x ys xs (sym heads) a from) in
    ap₂ (λ (z : X) (zs : List X). z ∷ zs) heads rest

placed_each : {X : Type 0} (number : X → ℕ) (P : X → Type 0) (x : X) (ys : List X) → P x → AllByRecursion P ys → AllByRecursion P (placed_by_number number x ys)
placed_each number P x [] here each = (here, tt)
placed_each number P x (y ∷ ys) here each =
    elim (cases_lt (number y) (number x)) [
      | inl lt ↦ let e : nat_lt (number y) (number x) ≡ true = grind (arith, nat_tests) in rw e (each.0, placed_each number P x ys here each.1)
      | inr ge ↦ let e : nat_lt (number y) (number x) ≡ false = grind (arith, nat_tests) in rw e (here, each)
    ]

each_placed : {X : Type 0} (number : X → ℕ) (P : X → Type 0) (x : X) (ys : List X) → AllByRecursion P (placed_by_number number x ys) → P x × AllByRecursion P ys
each_placed number P x [] each = each
each_placed number P x (y ∷ ys) each =
    elim (cases_lt (number y) (number x)) [
      | inl lt ↦ let e : nat_lt (number y) (number x) ≡ true = grind (arith, nat_tests) in
          let here : AllByRecursion P (y ∷ placed_by_number number x ys) = rw e at each in
          let rest = each_placed number P x ys here.1 in
          (rest.0, (here.0, rest.1))
      | inr ge ↦ let e : nat_lt (number y) (number x) ≡ false = grind (arith, nat_tests) in
          let here : AllByRecursion P (x ∷ y ∷ ys) = rw e at each in
          here
    ]

pub to_order : {X : Type 0} (number : X → ℕ) (P : X → Type 0) (xs : List X) → AllByRecursion P xs → AllByRecursion P (by_number number xs)
to_order number P [] each = tt
to_order number P (x ∷ xs) each = placed_each number P x (by_number number xs) each.0 (to_order number P xs each.1)

from_order : {X : Type 0} (number : X → ℕ) (P : X → Type 0) (xs : List X) → AllByRecursion P (by_number number xs) → AllByRecursion P xs
from_order number P [] each = tt
from_order number P (x ∷ xs) each =
    let parts = each_placed number P x (by_number number xs) each in
    (parts.0, from_order number P xs parts.1)

placed_ascends : {X : Type 0} (number : X → ℕ) (x : X) (ys : List X) → AllByRecursion (λ y. number y ≡ number x → ⊥) ys → Ascend number ys → Ascend number (placed_by_number number x ys)
placed_ascends number x [] other up = (tt, tt)
placed_ascends number x (y ∷ ys) other up =
    elim (cases_lt (number y) (number x)) [
      | inl lt ↦ let e : nat_lt (number y) (number x) ≡ true = grind (arith, nat_tests) in
          rw e (placed_each number (λ z. number y < number z) x ys lt up.0, placed_ascends number x ys other.1 up.1)
      | inr ge ↦ let e : nat_lt (number y) (number x) ≡ false = grind (arith, nat_tests) in
          let ne = other.0 in
          let lt : number x < number y = omega (arith, ge, ne) in
          rw e ((lt, each_weaker (λ z. number y < number z) (λ z. number x < number z) (λ z h. omega (arith, lt, h)) ys up.0), up)
    ]

-- no item has the number
none_has : {X : Type 0} (number : X → ℕ) (n : ℕ) (xs : List X) → list_any (λ y. number y == n) xs ≡ false → AllByRecursion (λ y. number y ≡ n → ⊥) xs
none_has number n [] none = tt
none_has number n (y ∷ ys) none =
    let parts = or_parts (number y == n) (list_any (λ z. number z == n) ys) none in
    (eqb-false (number y) n parts.0, none_has number n ys parts.1)

order_ascends : {X : Type 0} (number : X → ℕ) (xs : List X) → AreDifferent number xs → Ascend number (by_number number xs)
order_ascends number [] differ = tt
order_ascends number (x ∷ xs) differ =
    placed_ascends number x (by_number number xs)
    (to_order number (λ y. number y ≡ number x → ⊥) xs (none_has number (number x) xs differ.0)) (order_ascends number xs differ.1)

each_differs : {X : Type 0} (number : X → ℕ) (x : X) (xs : List X) → list_any (λ y. number y == number x) xs ≡ false → AllByRecursion (λ y. (number x == number y) ≡ false) xs
each_differs number x [] none = tt
each_differs number x (y ∷ ys) none =
    let parts = or_parts (number y == number x) (list_any (λ z. number z == number x) ys) none in
    let ne = eqb-false (number y) (number x) parts.0 in
    let e : (number x == number y) ≡ false = grind (arith, nat_tests) in
    (e, each_differs number x ys parts.1)

are_distinct : {X : Type 0} (number : X → ℕ) (xs : List X) → AreDifferent number xs → IsDistinct (λ x y. number x == number y) xs
unfolding IsDistinct
are_distinct number [] differ = tt
are_distinct number (x ∷ xs) differ = (each_differs number x xs differ.0, are_distinct number xs differ.1)

-- numbers that do not go down and differ go up
rise_ascends : {X : Type 0} (number : X → ℕ) (xs : List X) → Rise number xs → IsDistinct (λ x y. number x == number y) xs → Ascend number xs
unfolding IsDistinct
rise_ascends number [] up apart = tt
rise_ascends number (x ∷ xs) up apart = (
  each_both (λ y. number x ≤ number y) (λ y. (number x == number y) ≡ false) (λ y. number x < number y)
      (λ y le e. let ne = eqb-false (number x) (number y) e in omega (arith, le, ne)) xs up.0 apart.0,
  rise_ascends number xs up.1 apart.1,
)

pub rises : {X : Type 0} (number : X → ℕ) (xs : List X) → IsNonDecreasingBy number xs → Rise number xs
rises number [] up = tt
rises {X = X} number (x ∷ xs) up = (
  recursion_from_All (λ (y : X). number x ≤ number y) xs (λ k d h. up 0 (suc k) d (omega arith) (omega (arith, h))),
  rises number xs (λ i j d le h. up (suc i) (suc j) d (omega (arith, le)) (omega (arith, h))),
)

above : {X Y : Type 0} (f : Y → X) (number : X → ℕ) (key : Y → ℕ) (z : Y) (zs : List Y) → key z ≡ number (f z) → AllByRecursion (λ a. key a ≡ number (f a)) zs
    → AllByRecursion (λ a. key z ≤ key a) zs → AllByRecursion (λ b. number (f z) ≤ number b) (map f zs)
above f number key z [] e each up = tt
above f number key z (a ∷ zs) e each up = (omega (arith, e, each.0, up.0), above f number key z zs e each.1 up.1)

-- the same numbers, read from other items
pub rises_map : {X Y : Type 0} (f : Y → X) (number : X → ℕ) (key : Y → ℕ) (ys : List Y) → AllByRecursion (λ y. key y ≡ number (f y)) ys → Rise key ys → Rise number (map f ys)
rises_map f number key [] same up = tt
rises_map f number key (y ∷ ys) same up = (above f number key y ys same.0 same.1 up.0, rises_map f number key ys same.1 up.1)

pub in_order : {X : Type 0} (number : X → ℕ) (xs ys : List X) → IsPermutation xs ys → Rise number ys → AreDifferent number xs → ys ≡ by_number number xs
in_order {X = X} number xs ys moved up differ =
    let apart : IsDistinct (λ x y. number x == number y) ys =
    IsDistinct-IsPermutation (λ x y. number x == number y) (λ x y. flips (number x) (number y)) xs ys moved (are_distinct number xs differ) in
    same_list number ys (by_number number xs) (rise_ascends number ys up apart) (order_ascends number xs differ)
    (λ P each. to_order number P xs (recursion_from_All P xs (All-permutation P ys xs (IsPermutation-sym xs ys moved) (All-from_recursion P ys each))))
    (λ P each. recursion_from_All P ys (All-permutation P xs ys moved (All-from_recursion P xs (from_order number P xs each))))
  where
    flips : (a b : ℕ) → (a == b) ≡ (b == a)
    flips a b = grind (arith, nat_tests)

none_kept : {X : Type 0} (number : X → ℕ) (test : X → Bool) (n : ℕ) (ys : List X) → list_any (λ y. number y == n) ys ≡ false → list_any (λ y. number y == n) (filter test ys) ≡ false
none_kept number test n [] none = refl
none_kept {X = X} number test n (y ∷ ys) none =
    let parts = or_parts (number y == n) (list_any (λ z. number z == n) ys) none in
    either (test y) parts.0 (none_kept number test n ys parts.1)
  where
    either : (t : Bool) → (number y == n) ≡ false → list_any (λ z. number z == n) (filter test ys) ≡ false → list_any (λ z. number z == n) (cond t (y ∷ filter test ys) (filter test ys)) ≡ false
    either true here rest = or_from (number y == n) (list_any (λ z. number z == n) (filter test ys)) here rest
    either false here rest = rest

-- a filter leaves numbers different, and so does a look at the numbers alone
pub filter_differ : {X : Type 0} (number : X → ℕ) (test : X → Bool) (xs : List X) → AreDifferent number xs → AreDifferent number (filter test xs)
filter_differ number test [] differ = tt
filter_differ number test (x ∷ xs) differ = either (test x) (none_kept number test (number x) xs differ.0) (filter_differ number test xs differ.1)
  where
    either : (t : Bool) → list_any (λ y. number y == number x) (filter test xs) ≡ false → AreDifferent number (filter test xs) → AreDifferent number (cond t (x ∷ filter test xs) (filter test xs))
    either true none rest = (none, rest)
    either false none rest = rest

pub any_map : {X : Type 0} (number : X → ℕ) (n : ℕ) (ys : List X) → list_any (λ m. m == n) (map number ys) ≡ list_any (λ y. number y == n) ys
any_map number n [] = refl
any_map number n (y ∷ ys) = ap (λ (t : Bool). (number y == n) || t) (any_map number n ys)

pub map_differ : {X : Type 0} (number : X → ℕ) (xs : List X) → AreDifferent number xs → AreDifferent (λ (n : ℕ). n) (map number xs)
map_differ number [] differ = tt
map_differ number (x ∷ xs) differ = (any_map number (number x) xs ∙ differ.0, map_differ number xs differ.1)

sum_placed : {X : Type 0} (number f : X → ℕ) (x : X) (ys : List X) → sum_by f (placed_by_number number x ys) ≡ f x + sum_by f ys
sum_placed number f x [] = sum_by-cons f x []
sum_placed number f x (y ∷ ys) =
    elim (cases_lt (number y) (number x)) [
      | inl lt ↦ let e : nat_lt (number y) (number x) ≡ true = grind (arith, nat_tests) in
          let a = sum_by-cons f y (placed_by_number number x ys) in
          let b = sum_by-cons f y ys in
          let c = sum_placed number f x ys in
          rw e (omega (arith, a, b, c))
      | inr ge ↦ let e : nat_lt (number y) (number x) ≡ false = grind (arith, nat_tests) in rw e (sum_by-cons f x (y ∷ ys))
    ]

-- a sum is the same in order
pub sum_in_order : {X : Type 0} (number f : X → ℕ) (xs : List X) → sum_by f (by_number number xs) ≡ sum_by f xs
sum_in_order number f [] = refl
sum_in_order number f (x ∷ xs) = sum_placed number f x (by_number number xs) ∙ (ap (λ (n : ℕ). f x + n) (sum_in_order number f xs) ∙ sym (sum_by-cons f x xs))

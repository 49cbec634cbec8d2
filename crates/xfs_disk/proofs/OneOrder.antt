-- Lists in order that have the same elements, each as often, are one list.
use Rattle.std.proofs.Common.{◌≡◌, ℕ, ◌+◌, ◌≤◌, Bool, true, false, cond, List, [], ◌∷◌, refl, sym, ap, ap₂, subst, arith}
use Rattle.std.specs.List.{list_all, count_by}
use Rattle.std.proofs.lemmas.List.Sums.{sum_by-cons}
use Rattle.std.proofs.lemmas.Bool.{and_parts}
use Rattle.xfs_disk.specs.Lists.{AreInOrder}

-- an order, and a test that two elements are one
pub record IsOrder {X : Type 0} (upto same : X → X → Bool) : Type 0 where
  pub itself : (x : X) → same x x ≡ true
  pub one : (x y : X) → same x y ≡ true → x ≡ y
  pub both : (x y : X) → upto x y ≡ true → upto y x ≡ true → x ≡ y
  pub least : (x : X) → upto x x ≡ true

-- a list counts an element at its head, and one more further on
pub count-cons : {X : Type 0} (p : X → Bool) (x : X) (xs : List X) → count_by p (x ∷ xs) ≡ cond (p x) 1 0 + count_by p xs
count-cons p x xs = sum_by-cons (λ y. cond (p y) 1 0) x xs

-- what is in a list whose elements all pass a test passes it
pub passes : {X : Type 0} (upto same : X → X → Bool) → IsOrder upto same → (test : X → Bool) (y : X) (xs : List X) → list_all test xs ≡ true → 1 ≤ count_by (same y) xs → test y ≡ true
passes upto same order test y [] all some = absurd (omega arith)
passes upto same order test y (x ∷ xs) all some =
    let parts = and_parts (test x) (list_all test xs) all in
    by_head (same y x) refl (λ e. passes upto same order test y xs parts.1 e)
  where
    by_head : (t : Bool) → same y x ≡ t → (1 ≤ count_by (same y) xs → test y ≡ true) → test y ≡ true
    by_head true is rest = subst (λ z. test z ≡ true) (sym (order.one y x is)) (and_parts (test x) (list_all test xs) all).0
    by_head false is rest =
        let more : count_by (same y) (x ∷ xs) ≡ cond (same y x) 1 0 + count_by (same y) xs = count-cons (same y) x xs in
        let none : ◌≡◌ {A = ℕ} (cond (same y x) 1 0) 0 = rw is refl in
        rest (omega arith)

-- a head is counted
head-counted : {X : Type 0} (upto same : X → X → Bool) → IsOrder upto same → (x : X) (xs : List X) → 1 ≤ count_by (same x) (x ∷ xs)
head-counted upto same order x xs =
    let more : count_by (same x) (x ∷ xs) ≡ cond (same x x) 1 0 + count_by (same x) xs = count-cons (same x) x xs in
    let one : ◌≡◌ {A = ℕ} (cond (same x x) 1 0) 1 = rw (order.itself x) refl in
    omega arith

-- the head comes no later than any of the list
head-upto : {X : Type 0} (upto same : X → X → Bool) → IsOrder upto same → (x y : X) (xs : List X) → AreInOrder upto (x ∷ xs) → 1 ≤ count_by (same y) (x ∷ xs) → upto x y ≡ true
head-upto upto same order x y xs ranked some =
    let all : list_all (upto x) (x ∷ xs) ≡ true = rw (order.least x) ranked.0 in
    passes upto same order (upto x) y (x ∷ xs) all some

pub only_one : {X : Type 0} (upto same : X → X → Bool) → IsOrder upto same → (xs ys : List X) → AreInOrder upto xs → AreInOrder upto ys
    → ((p : X) → count_by (same p) xs ≡ count_by (same p) ys) → xs ≡ ys
only_one {X = X} upto same order [] [] a b counts = refl
only_one {X = X} upto same order [] (y ∷ ys) a b counts = let some = head-counted upto same order y ys in let e = counts y in absurd (omega arith)
only_one {X = X} upto same order (x ∷ xs) [] a b counts = let some = head-counted upto same order x xs in let e = counts x in absurd (omega arith)
only_one {X = X} upto same order (x ∷ xs) (y ∷ ys) a b counts =
    let first : 1 ≤ count_by (same x) (x ∷ xs) = head-counted upto same order x xs in
    let second : 1 ≤ count_by (same y) (y ∷ ys) = head-counted upto same order y ys in
    let at_x : count_by (same x) (x ∷ xs) ≡ count_by (same x) (y ∷ ys) = counts x in
    let at_y : count_by (same y) (x ∷ xs) ≡ count_by (same y) (y ∷ ys) = counts y in
    let heads : x ≡ y = order.both x y (head-upto upto same order x y xs a (omega arith)) (head-upto upto same order y x ys b (omega arith)) in
    let rest : (p : X) → count_by (same p) xs ≡ count_by (same p) ys =
    λ p.
    let left : count_by (same p) (x ∷ xs) ≡ cond (same p x) 1 0 + count_by (same p) xs = count-cons (same p) x xs in
    let right : count_by (same p) (y ∷ ys) ≡ cond (same p y) 1 0 + count_by (same p) ys = count-cons (same p) y ys in
    let one : ◌≡◌ {A = ℕ} (cond (same p x) 1 0) (cond (same p y) 1 0) = ap (λ (z : X). cond (same p z) 1 0) heads in
    let e = counts p in
    omega arith in
    ap₂ (λ (z : X) (zs : List X). z ∷ zs) heads (only_one upto same order xs ys a.1 b.1 rest)

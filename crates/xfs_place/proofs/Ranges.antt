-- Numbers in a row, tests of them, and fronts of lists.
use Rattle.std.proofs.Common.{◌≡◌, ℕ, zero, suc, ◌+◌, ◌-◌, ◌≤◌, ◌<◌, inl, inr, Bool, true, false, ◌&&◌, List, [], ◌∷◌, ◌++◌, length, take, refl, sym, ◌∙◌, ap, ap₂, arith, length-take, length-append}
use Rattle.std.specs.List.{flat_map, list_all, range_with_len}
use Rattle.std.proofs.lemmas.Bool.{cases_lt, cases_eq}
use Rattle.std.proofs.lemmas.List.{take_all, take-append-le, take-take, flat_map_more}
use Rattle.std.proofs.lemmas.List.Concat.{flat_map-append}

pub range_split : (a i k n : ℕ) → n ≡ i + k → range_with_len a n ≡ range_with_len a i ++ range_with_len (a + i) k
range_split a zero k n is =
    let many : n ≡ k = omega (arith, is) in
    let at : a ≡ a + 0 = omega arith in
    ap₂ range_with_len at many
range_split a (suc i) k n is =
    let many : n ≡ suc (i + k) = omega (arith, is) in
    let at : (a + 1) + i ≡ a + suc i = omega arith in
    rw many (ap (λ (xs : List ℕ). a ∷ xs) (range_split (a + 1) i k (i + k) refl ∙ ap (λ (m : ℕ). range_with_len (a + 1) i ++ range_with_len m k) at))

pub range_more : (n : ℕ) → range_with_len 0 (n + 1) ≡ range_with_len 0 n ++ n ∷ []
range_more n =
    let at : 0 + n ≡ n = omega arith in
    range_split 0 n 1 (n + 1) refl ∙ ap (λ (m : ℕ). range_with_len 0 n ++ m ∷ []) at

-- all numbers in the row pass
pub all_pass : (test : ℕ → Bool) (from n : ℕ) → ((b : ℕ) → from ≤ b → b < from + n → test b ≡ true) → list_all test (range_with_len from n) ≡ true
all_pass test from zero each = refl
all_pass test from (suc n) each =
    let first = each from (omega arith) (omega arith) in
    rw first (all_pass test (from + 1) n (λ b low high. each b (omega (arith, low)) (omega (arith, high))))

-- one of them fails
pub one_fails : (test : ℕ → Bool) (from n b : ℕ) → from ≤ b → b < from + n → test b ≡ false → list_all test (range_with_len from n) ≡ false
one_fails test from zero b low high fails = absurd (omega (arith, low, high))
one_fails test from (suc n) b low high fails = elim (cases_eq b from) [
  | inl here ↦ let first : test from ≡ false = ap test (sym here) ∙ fails in rw first refl
  | inr there ↦
      let next = one_fails test (from + 1) n b (omega (arith, low, there)) (omega (arith, high)) fails in
      rw next (none_of (test from))
]
  where
    none_of : (x : Bool) → (x && false) ≡ false
    none_of true = refl
    none_of false = refl

-- tests that agree on the row
pub same_tests : (p q : ℕ → Bool) (from n : ℕ) → ((b : ℕ) → from ≤ b → b < from + n → p b ≡ q b) → list_all p (range_with_len from n) ≡ list_all q (range_with_len from n)
same_tests p q from zero same = refl
same_tests p q from (suc n) same =
    ap₂ ◌&&◌ (same from (omega arith) (omega arith)) (same_tests p q (from + 1) n (λ b low high. same b (omega (arith, low)) (omega (arith, high))))

-- a front that is full takes no more
pub take_full : (n : ℕ) (xs ys : List ℕ) → n ≤ length (take n xs) → take n (xs ++ ys) ≡ take n xs
take_full n xs ys full = take-append-le n xs ys (omega (arith, full, length-take n xs))

-- one that is not takes one more
pub take_open : (n : ℕ) (xs : List ℕ) (y : ℕ) → length (take n xs) < n → take n (xs ++ y ∷ []) ≡ take n xs ++ y ∷ []
take_open n xs y room =
    let short : length xs < n = omega (arith, room, length-take n xs) in
    let whole : take n xs ≡ xs = take_all n xs (omega (arith, short)) in
    take_all n (xs ++ y ∷ []) (omega (arith, short, length-append xs (y ∷ []))) ∙ ap (λ (zs : List ℕ). zs ++ y ∷ []) (sym whole)

-- the front of a front with more behind it
pub take_again : (n : ℕ) (xs ys : List ℕ) → take n (take n xs ++ ys) ≡ take n (xs ++ ys)
take_again n xs ys = elim (cases_lt (length xs) n) [
  | inl short ↦ ap (λ (zs : List ℕ). take n (zs ++ ys)) (take_all n xs (omega (arith, short)))
  | inr long ↦
      let full : length (take n xs) ≡ n = omega (arith, length-take n xs, long) in
      take-append-le n (take n xs) ys (omega (arith, full)) ∙ take-take n n xs (omega arith) ∙ sym (take-append-le n xs ys long)
]

pub flat_more : (f : ℕ → List ℕ) (n : ℕ) → flat_map f (range_with_len 0 (n + 1)) ≡ flat_map f (range_with_len 0 n) ++ f n
flat_more f n = ap (flat_map f) (range_more n) ∙ sym (flat_map_more f [] (range_with_len 0 n) n)

-- a front of what some numbers give stays where more follow, once it is full
pub flat_full : (n : ℕ) (f : ℕ → List ℕ) (i all : ℕ) (ys : List ℕ) → i ≤ all → ys ≡ take n (flat_map f (range_with_len 0 i)) → n ≤ length ys → ys ≡ take n (flat_map f (range_with_len 0 all))
flat_full n f i all ys low so full =
    let k : ℕ = all - i in
    let many : all ≡ i + k = omega (arith, low) in
    let enough : n ≤ length (take n (flat_map f (range_with_len 0 i))) = omega (arith, full, ap length so) in
    so ∙ sym (take_full n (flat_map f (range_with_len 0 i)) (flat_map f (range_with_len (0 + i) k)) enough)
    ∙ ap (take n) (sym (ap (flat_map f) (range_split 0 i k all many) ∙ flat_map-append f (range_with_len 0 i) (range_with_len (0 + i) k)))

-- Lists that are made from numbers in a row.
use Rattle.std.proofs.Common.{◌≡◌, ℕ, zero, suc, ◌+◌, ◌≤◌, ◌<◌, List, [], ◌∷◌, ◌++◌, map, append-nil, refl, ap, ◌∙◌, arith}
use Rattle.std.specs.List.{All, flat_map, range_with_len}
use Rattle.std.proofs.lemmas.List.Elements.{All-append, All-cons, All-nil}

-- numbers in a row, and those that follow
pub range_on : (a m b n k : ℕ) → b ≡ a + m → k ≡ m + n → range_with_len a m ++ range_with_len b n ≡ range_with_len a k
range_on a zero b n k next all =
    let start : b ≡ a = omega (arith, next) in
    let count : k ≡ n = omega (arith, all) in
    rw (start, count) refl
range_on a (suc m) b n k next all =
    let count : k ≡ suc (m + n) = omega (arith, all) in
    rw count (ap (λ (xs : List ℕ). a ∷ xs) (range_on (a + 1) m b n (m + n) (omega (arith, next)) refl))

-- two lists of numbers in a row, joined
pub both_ranges : (xs ys : List ℕ) (a m b n k : ℕ) → xs ≡ range_with_len a m → ys ≡ range_with_len b n → b ≡ a + m → k ≡ m + n
    → xs ++ (ys ++ []) ≡ range_with_len a k
both_ranges xs ys a m b n k first second next all =
    ap (λ (zs : List ℕ). xs ++ zs) (append-nil ys)
    ∙ (ap (λ (zs : List ℕ). zs ++ ys) first
    ∙ (ap (λ (zs : List ℕ). range_with_len a m ++ zs) second ∙ range_on a m b n k next all))

-- where each of some numbers gives an empty list
flat_none : {A : Type 0} (f : ℕ → List A) (a n : ℕ) → ((k : ℕ) → a ≤ k → k < a + n → f k ≡ []) → flat_map f (range_with_len a n) ≡ []
flat_none f a zero none = refl
flat_none f a (suc n) none =
    let here : f a ≡ [] = none a (omega arith) (omega arith) in
    rw here (flat_none f (a + 1) n (λ k low high. none k (omega (arith, low)) (omega (arith, high))))

-- where the first number alone gives a list
pub flat_first : {A : Type 0} (f : ℕ → List A) (n : ℕ) (xs : List A) → 0 < n → f 0 ≡ xs → ((k : ℕ) → 1 ≤ k → k < n → f k ≡ [])
    → flat_map f (range_with_len 0 n) ≡ xs
flat_first f zero xs some first none = absurd (omega (arith, some))
flat_first {A} f (suc n) xs some first none =
    ap (λ (ys : List A). ys ++ flat_map f (range_with_len 1 n)) first
    ∙ (ap (λ (ys : List A). xs ++ ys) (flat_none f 1 n (λ k low high. none k low (omega (arith, high)))) ∙ append-nil xs)

-- what holds of the items of numbers in a row
pub all_items : {A : Type 0} (P : A → Type 0) (f : ℕ → A) (a n : ℕ) → ((k : ℕ) → a ≤ k → k < a + n → P (f k)) → All P (map f (range_with_len a n))
all_items P f a zero each = All-nil P
all_items P f a (suc n) each =
    All-cons P (f a) (map f (range_with_len (a + 1) n)) (each a (omega arith) (omega arith))
    (all_items P f (a + 1) n (λ k low high. each k (omega (arith, low)) (omega (arith, high))))

-- the same of the items of the lists of numbers in a row
pub all_lists : {A : Type 0} (P : A → Type 0) (f : ℕ → List A) (a n : ℕ) → ((k : ℕ) → a ≤ k → k < a + n → All P (f k))
    → All P (flat_map f (range_with_len a n))
all_lists P f a zero each = All-nil P
all_lists P f a (suc n) each =
    All-append P (f a) (flat_map f (range_with_len (a + 1) n)) (each a (omega arith) (omega arith))
    (all_lists P f (a + 1) n (λ k low high. each k (omega (arith, low)) (omega (arith, high))))

-- and of the items of two lists
pub all_of_two : {A : Type 0} (P : A → Type 0) (f : ℕ → List A) (xs : List ℕ) (a b : ℕ) → xs ≡ a ∷ b ∷ [] → All P (f a) → All P (f b)
    → All P (flat_map f xs)
all_of_two P f xs a b is first second =
    rw is (All-append P (f a) (f b ++ []) first (All-append P (f b) [] second (All-nil P)))

-- What is shared out among the blocks of a row.
use Rattle.std.proofs.Common.{◌≡◌, ℕ, zero, suc, ◌+◌, ◌-◌, ◌*◌, ◌/◌, ◌%◌, ◌<◌, ◌≤◌, ◌⊎◌, inl, inr, List, [], ◌∷◌, ◌++◌, map, length, take, drop, get_or, refl, sym, ◌∙◌, ap, ap₂, subst, arith}
use Rattle.std.specs.List.{range_with_len, flat_map}
use Rattle.std.proofs.Math.Nat.{div-add-mod', mod-lt, div-le_of_le-mul, div-le_self, lt_of_mul-lt-mul_right, mul-le-mul_right, lt-mul-div-succ}
use Rattle.std.proofs.lemmas.Bool.{cases_lt}
use Rattle.std.proofs.lemmas.Bool.Decides.{nat_tests}
use Rattle.std.proofs.lemmas.List.{same_lists, length-take-le, length-drop, length-map, get_or-take, get_or-drop, take-append-drop, drop-drop, drop_all, take-map, drop-map}
use Rattle.std.proofs.lemmas.List.FromFn.{length-map-range_with_len, get_or-map-range_with_len}
use Rattle.xfs_disk.specs.Shares.{share_of, first_of_share}
use Rattle.xfs_disk.proofs.Shares.{first_end, share_next}
use Rattle.xfs_treebuild.specs.Size.{blocks_for}
use Rattle.xfs_tree.specs.Blocks.{each_of}
use Rattle.xfs_treebuild.specs.Private.Placed.{share_in}

-- each item of a row by its place is what the list has there
each_from : {A B : Type 0} (h : B → A) (f : ℕ → A) (a : ℕ) (xs : List B) → ((k : ℕ) (d : B) → k < length xs → f (a + k) ≡ h (get_or xs k d))
    → map f (range_with_len a (length xs)) ≡ map h xs
each_from h f a [] at = refl
each_from h f a (x ∷ xs) at =
    let start : a + 0 ≡ a = omega arith in
    let head : f a ≡ h x = ap f (sym start) ∙ at 0 x (omega arith) in
    ap₂ ◌∷◌ head (each_from h f (a + 1) xs (λ k d before.
    let on : a + 1 + k ≡ a + suc k = omega arith in
    ap f on ∙ at (suc k) d (omega arith)))

pub each_is : {A B : Type 0} (h : B → A) (f : ℕ → A) (xs : List B) (n : ℕ) → n ≡ length xs → ((k : ℕ) (d : B) → k < n → f k ≡ h (get_or xs k d))
    → each_of n f ≡ map h xs
each_is h f xs n len at =
    ap (λ (m : ℕ). map f (range_with_len 0 m)) len
    ∙ each_from h f 0 xs (λ k d before. let on : 0 + k ≡ k = omega arith in ap f on ∙ at k d (omega arith))

-- some of a row by their places
pub each_share : {A : Type 0} (f g : ℕ → A) (m n a : ℕ) → a + n ≤ m → ((k : ℕ) → k < n → g k ≡ f (a + k)) → each_of n g ≡ take n (drop a (each_of m f))
each_share f g m n a inside at =
    let whole = length-map-range_with_len f 0 m in
    let part = length-map-range_with_len g 0 n in
    let rest = length-drop a (each_of m f) in
    let len = length-take-le n (drop a (each_of m f)) (omega (arith, whole, rest)) in
    same_lists (each_of n g) (take n (drop a (each_of m f))) (part ∙ sym len) (λ k d before.
    get_or-map-range_with_len g 0 n k k d (omega (arith, part)) (omega arith)
    ∙ at k (omega (arith, part))
    ∙ sym (get_or-take n (drop a (each_of m f)) k d (omega (arith, part)) ∙ get_or-drop a (each_of m f) k d
    ∙ get_or-map-range_with_len f 0 m (a + k) (a + k) d (omega (arith, part)) (omega arith)))

-- blocks for some items hold them all, and are no more than they
pub blocks_hold : (most n : ℕ) → 1 ≤ most → n ≤ blocks_for most n * most
blocks_hold most n some =
    by_items (cases_lt n 1)
  where
    by_items : (n < 1) ⊎ (1 ≤ n) → n ≤ blocks_for most n * most
    by_items (inl none) = omega arith
    by_items (inr items) =
        let value : blocks_for most n ≡ (n - 1) / most + 1 = grind (arith, nat_tests) in
        let more : n - 1 < most * ((n - 1) / most + 1) = lt-mul-div-succ (n - 1) (omega arith) in
        let turned : most * ((n - 1) / most + 1) ≡ ((n - 1) / most + 1) * most = omega arith in
        rw value (omega (arith, more, turned))

pub blocks_room : (most n m : ℕ) → m ≡ blocks_for most n → 1 ≤ most → n ≤ m * most
blocks_room most n m value some = subst (λ (k : ℕ). n ≤ k * most) (sym value) (blocks_hold most n some)

-- two blocks or more are no more than their items
pub blocks_few : (most n : ℕ) → 2 ≤ blocks_for most n → blocks_for most n ≤ n
blocks_few most n more = by_items (cases_lt n 1) more
  where
    by_items : (n < 1) ⊎ (1 ≤ n) → 2 ≤ blocks_for most n → blocks_for most n ≤ n
    by_items (inl none) more =
        let one : blocks_for most n ≡ 1 = grind (arith, nat_tests) in
        absurd (omega (arith, one, more))
    by_items (inr items) more =
        let value : blocks_for most n ≡ (n - 1) / most + 1 = grind (arith, nat_tests) in
        let less : (n - 1) / most ≤ n - 1 = div-le_self (n - 1) most in
        omega (arith, value, less)

-- the shares from block i on are the items from its first on
shares_from : {A : Type 0} (xs : List A) (m i k : ℕ) → 1 ≤ m → i + k ≡ m → flat_map (share_in xs m) (range_with_len i k) ≡ drop (first_of_share (length xs) m i) xs
shares_from {A = A} xs m i zero some all =
    let last : i ≡ m = omega (arith, all) in
    let end : first_of_share (length xs) m i ≡ length xs = ap (first_of_share (length xs) m) last ∙ first_end (length xs) m some in
    sym (drop_all (first_of_share (length xs) m i) xs (omega (arith, end)))
shares_from {A = A} xs m i (suc k) some all =
    let n = length xs in
    let rest = shares_from xs m (i + 1) k some (omega (arith, all)) in
    let next : drop (first_of_share n m (i + 1)) xs ≡ drop (share_of n m i) (drop (first_of_share n m i) xs) =
    ap (λ (a : ℕ). drop a xs) (share_next n m i) ∙ sym (drop-drop (share_of n m i) (first_of_share n m i) xs) in
    ap (λ (ys : List A). share_in xs m i ++ ys) (rest ∙ next) ∙ take-append-drop (share_of n m i) (drop (first_of_share n m i) xs)

-- all shares are all items
pub shares_all : {A : Type 0} (xs : List A) (m : ℕ) → 1 ≤ m → flat_map (share_in xs m) (range_with_len 0 m) ≡ xs
shares_all xs m some =
    let start : first_of_share (length xs) m 0 ≡ 0 = omega arith in
    shares_from xs m 0 m some (omega arith) ∙ ap (λ (a : ℕ). drop a xs) start

-- a share of what some items are made into
pub share_made : {A B : Type 0} (f : A → B) (xs : List A) (m i first share : ℕ) → share ≡ share_of (length xs) m i → first ≡ first_of_share (length xs) m i
    → map f (take (first + share - first) (drop first xs)) ≡ share_in (map f xs) m i
share_made f xs m i first share share_is first_is =
    let len : length xs ≡ length (map f xs) = sym (length-map xs f) in
    let width : first + share - first ≡ share_of (length (map f xs)) m i = omega (arith, share_is) ∙ ap (λ (n : ℕ). share_of n m i) len in
    let start : first ≡ first_of_share (length (map f xs)) m i = first_is ∙ ap (λ (n : ℕ). first_of_share n m i) len in
    sym (take-map f (first + share - first) (drop first xs))
    ∙ ap (take (first + share - first)) (sym (drop-map f first xs))
    ∙ ap₂ (λ (n a : ℕ). take n (drop a (map f xs))) width start

-- The levels of a packed tree, one after the other.
use Rattle.std.proofs.Common.{◌≡◌, ℕ, zero, suc, ◌+◌, ◌-◌, ◌*◌, ◌/◌, ◌<◌, ◌≤◌, ◌⊎◌, inl, inr, Bool, if◌then◌else◌, List, [], ◌∷◌, refl, sym, ◌∙◌, ap, arith}
use Rattle.std.proofs.Math.Nat.{div-mul-le_self, mul-le-mul_left}
use Rattle.std.proofs.lemmas.Bool.{cases_lt, le-leb, lt-leb}
use Rattle.std.proofs.lemmas.Bool.Decides.{nat_tests}
use Rattle.std.specs.List.{fold, sum}
use Rattle.xfs_treebuild.specs.Size.{blocks_for, rows_above, rows_of}

blocks_more : (most m : ℕ) → 1 ≤ m → blocks_for most m ≡ (m - 1) / most + 1
blocks_more most m some = grind (arith, nat_tests)

-- half as many blocks, or one more, hold the blocks of a level with two or more
pub fewer : (most m : ℕ) → 2 ≤ most → 2 ≤ m → 2 * blocks_for most m ≤ m + 1
fewer most m two some =
    let value : blocks_for most m ≡ (m - 1) / most + 1 = blocks_more most m (omega arith) in
    let whole : (m - 1) / most * most ≤ m - 1 = div-mul-le_self (m - 1) most in
    let twice : (m - 1) / most * 2 ≤ (m - 1) / most * most = mul-le-mul_left ((m - 1) / most) two in
    omega (arith, value, whole, twice)

-- there is no level above one block
pub rows_end : (fuel most m : ℕ) → m ≤ 1 → rows_above fuel most m ≡ []
unfolding rows_above
rows_end zero most m one = refl
rows_end (suc fuel) most m one =
    ap (λ (r : Bool). if r then [] else (blocks_for most m ∷ rows_above fuel most (blocks_for most m))) (le-leb m 1 one)

-- the level above a level of two blocks or more
rows_more : (fuel most m : ℕ) → 2 ≤ m → rows_above (suc fuel) most m ≡ blocks_for most m ∷ rows_above fuel most (blocks_for most m)
unfolding rows_above
rows_more fuel most m two =
    ap (λ (r : Bool). if r then [] else (blocks_for most m ∷ rows_above fuel most (blocks_for most m))) (lt-leb m 1 two)

-- a greater bound on the levels changes nothing
rows_fuel : (f g most m : ℕ) → 2 ≤ most → m ≤ f → m ≤ g → rows_above f most m ≡ rows_above g most m
rows_fuel zero g most m two in_f in_g = rows_end zero most m (omega arith) ∙ sym (rows_end g most m (omega arith))
rows_fuel (suc f) zero most m two in_f in_g = rows_end (suc f) most m (omega arith) ∙ sym (rows_end zero most m (omega arith))
rows_fuel (suc f) (suc g) most m two in_f in_g =
    by_case (cases_lt m 2) (λ high. let half = fewer most m two high in rows_fuel f g most (blocks_for most m) two (omega (arith, half)) (omega (arith, half)))
  where
    by_case : (m < 2) ⊎ (2 ≤ m) → (2 ≤ m → rows_above f most (blocks_for most m) ≡ rows_above g most (blocks_for most m))
        → rows_above (suc f) most m ≡ rows_above (suc g) most m
    by_case (inl low) again = rows_end (suc f) most m (omega arith) ∙ sym (rows_end (suc g) most m (omega arith))
    by_case (inr high) again =
        rows_more f most m high ∙ ap (λ (rows : List ℕ). blocks_for most m ∷ rows) (again high) ∙ sym (rows_more g most m high)

-- the level above a level of two blocks or more, and all above it
pub rows_next : (most m : ℕ) → 2 ≤ most → 2 ≤ m
    → rows_above m most m ≡ blocks_for most m ∷ rows_above (blocks_for most m) most (blocks_for most m)
rows_next most zero two some = absurd (omega arith)
rows_next most (suc f) two some =
    let half = fewer most (suc f) two some in
    let next = blocks_for most (suc f) in
    rows_more f most (suc f) some ∙ ap (λ (rows : List ℕ). next ∷ rows) (rows_fuel f next most next two (omega (arith, half)) (omega arith))

-- a sum begins with its first number
sum_from : (a : ℕ) (rows : List ℕ) → fold ◌+◌ a rows ≡ a + sum rows
sum_from a [] = omega arith
sum_from a (x ∷ rows) =
    let head = sum_from (a + x) rows in
    let tail = sum_from (0 + x) rows in
    omega (arith, head, tail)

sum_first : (x : ℕ) (rows : List ℕ) → sum (x ∷ rows) ≡ x + sum rows
sum_first x rows = let all = sum_from (0 + x) rows in omega (arith, all)

-- at the leaves all other levels are left to count
pub levels_begin : (leaf_cap node_cap records leaves : ℕ) → leaves ≡ blocks_for leaf_cap records
    → leaves + sum (rows_above leaves node_cap leaves) ≡ sum (rows_of leaf_cap node_cap records)
unfolding rows_of
levels_begin leaf_cap node_cap records leaves value =
    let due = blocks_for leaf_cap records in
    ap (λ n. n + sum (rows_above n node_cap n)) value ∙ sym (sum_first due (rows_above due node_cap due))

-- one level more: what is left to count falls by it
pub level_more : (most m size total : ℕ) → 2 ≤ most → 2 ≤ m → size + sum (rows_above m most m) ≡ total
    → size + blocks_for most m + sum (rows_above (blocks_for most m) most (blocks_for most m)) ≡ total
level_more most zero size total two some held = omega (arith, some)
level_more most (suc f) size total two some held =
    let half = fewer most (suc f) two some in
    let next = blocks_for most (suc f) in
    let level : rows_above (suc f) most (suc f) ≡ next ∷ rows_above next most next =
    rows_more f most (suc f) some ∙ ap (λ (rows : List ℕ). next ∷ rows) (rows_fuel f next most next two (omega (arith, half)) (omega arith)) in
    let all : size + sum (next ∷ rows_above next most next) ≡ total = ap (λ (rows : List ℕ). size + sum rows) (sym level) ∙ held in
    let first = sum_first next (rows_above next most next) in
    omega (arith, all, first)

-- at one block all is counted
pub levels_end : (most m size total : ℕ) → m ≤ 1 → size + sum (rows_above m most m) ≡ total → size ≡ total
levels_end most m size total one held =
    let none : sum (rows_above m most m) ≡ 0 = ap sum (rows_end m most m one) in
    omega (arith, none, held)

-- A block is one of some runs where those that begin at it or before reach behind it.
use Rattle.std.proofs.Common.{◌≡◌, ◌∙◌, ℕ, zero, suc, ◌+◌, ◌<◌, ◌≤◌, ◌&&◌, ◌||◌, max, Bool, true, false, nat_le, nat_lt, List, [], ◌∷◌, length, get_or, drop, append-nil, append_assoc, ◌++◌, refl, sym, subst, ap, arith}
use Rattle.std.specs.List.{AllWithin, list_any}
use Rattle.std.specs.List.Sorted.{IsNonDecreasingBy}
use Rattle.std.proofs.lemmas.Bool.{le-leb}
use Rattle.std.proofs.lemmas.Bool.Decides.{nat_tests}
use Rattle.std.proofs.lemmas.List.{get_or_default, drop_all, drop_more}
use Rattle.std.proofs.lemmas.List.Folds.{list_any_none}
use Rattle.std.proofs.lemmas.List.Sorted.{list_any-IsPermutation}
use Rattle.xfs_geom.specs.Runs.{covers}
use Rattle.xfs_geom.specs.declared.records.Run.{Run}
use Rattle.xfs_place.specs.Pool.{is_taken}
use Rattle.xfs_render.specs.NewBlocks.{AreReaches, reaches_of}
use Rattle.xfs_render.specs.declared.new_blocks.Reach.{Reach}

abbrev no_run : Run
no_run = record { start = 0; count = 0; owner = 0; offset_word = 0 }

-- a reach for each run, which begins where that one does
pub count_reaches : (far : ℕ) (runs : List Run) → length (reaches_of far runs) ≡ length runs
count_reaches far [] = refl
count_reaches far (r ∷ rest) = ap suc (count_reaches (max (r.start + r.count) far) rest)

start_at : (far : ℕ) (runs : List Run) (k : ℕ) (d : Reach) → k < length runs → (get_or (reaches_of far runs) k d).start ≡ (get_or runs k no_run).start
start_at far [] k d low = absurd (omega (arith, low))
start_at far (r ∷ rest) zero d low = refl
start_at far (r ∷ rest) (suc k) d low = start_at (max (r.start + r.count) far) rest k d (omega (arith, low))

pub starts_ascend : (runs : List Run) (reaches : List Reach) → AreReaches runs reaches → IsNonDecreasingBy (λ (r : Reach). r.start) reaches
starts_ascend runs reaches are =
    subst (IsNonDecreasingBy (λ (r : Reach). r.start)) (sym are.is) (λ i j d low inside.
    let short : j < length are.sorted = omega (arith, inside, count_reaches 0 are.sorted) in
    let first = start_at 0 are.sorted i d (omega (arith, short, low)) in
    let second = start_at 0 are.sorted j d short in
    let up = are.ascend i j no_run low short in
    omega (arith, first, second, up))

-- where the farthest of the first k runs ends
pub end_before : ℕ → ℕ → List Reach → ℕ
end_before far zero reaches = far
end_before far (suc k) [] = far
end_before far (suc k) (r ∷ reaches) = end_before r.end k reaches

pub end_at : (far k : ℕ) (reaches : List Reach) (d : Reach) → k < length reaches → end_before far (suc k) reaches ≡ (get_or reaches k d).end
unfolding end_before
end_at far k [] d low = absurd (omega (arith, low))
end_at far zero (r ∷ reaches) d low = refl
end_at far (suc k) (r ∷ reaches) d low = end_at r.end k reaches d (omega (arith, low))

not_covered : (r : Run) (block : ℕ) → block < r.start → covers block r ≡ false
not_covered r block low = let none : (nat_le r.start block && nat_lt block (r.start + r.count)) ≡ false = grind (arith, nat_tests) in none

covered : (r : Run) (block : ℕ) → r.start ≤ block → covers block r ≡ nat_lt block (r.start + r.count)
covered r block low = let begun : nat_le r.start block ≡ true = le-leb r.start block low in rw begun refl

farther : (a b n : ℕ) → nat_lt n (max a b) ≡ (nat_lt n a || nat_lt n b)
farther a b n = grind (arith, nat_tests)

not_below : (n : ℕ) → nat_lt n 0 ≡ false
not_below n = grind (arith, nat_tests)

-- no block lies before the end of none of them
pub none_before : (block : ℕ) (reaches : List Reach) → nat_lt block (end_before 0 0 reaches) ≡ false
unfolding end_before
none_before block reaches = not_below block

or_false : (x : Bool) → (x || false) ≡ x
or_false true = refl
or_false false = refl

or_moved : (a b c : Bool) → (a || (b || c)) ≡ ((b || a) || c)
or_moved true true c = refl
or_moved true false c = refl
or_moved false true c = refl
or_moved false false c = refl

-- with the first k that begin at the block or before, and the others behind it
reached : (far : ℕ) (runs : List Run) (block k : ℕ) → k ≤ length runs
    → AllWithin (λ (r : Reach). r.start ≤ block) (reaches_of far runs) 0 k
    → AllWithin (λ (r : Reach). block < r.start) (reaches_of far runs) k (length runs)
    → (nat_lt block far || is_taken runs block) ≡ nat_lt block (end_before far k (reaches_of far runs))
unfolding is_taken end_before
reached far [] block zero few begun behind = or_false (nat_lt block far)
reached far [] block (suc k) few begun behind = absurd (omega (arith, few))
reached far (r ∷ rest) block zero few begun behind =
    let d : Reach = record { start = 0; end = 0 } in
    let none : list_any (covers block) (r ∷ rest) ≡ false =
    list_any_none (covers block) (r ∷ rest) (λ j e low.
    let at = start_at far (r ∷ rest) j d low in
    let same : get_or (r ∷ rest) j e ≡ get_or (r ∷ rest) j no_run = get_or_default (r ∷ rest) j e no_run low in
    let start = ap (λ (x : Run). x.start) same in
    not_covered (get_or (r ∷ rest) j e) block (omega (arith, at, start, behind j d (omega arith) low))) in
    ap (λ (t : Bool). nat_lt block far || t) none ∙ or_false (nat_lt block far)
reached far (r ∷ rest) block (suc k) few begun behind =
    let d : Reach = record { start = 0; end = 0 } in
    let low : r.start ≤ block = begun zero d (omega arith) (omega arith) in
    ap (λ (t : Bool). nat_lt block far || (t || list_any (covers block) rest)) (covered r block low)
    ∙ or_moved (nat_lt block far) (nat_lt block (r.start + r.count)) (list_any (covers block) rest)
    ∙ ap (λ (t : Bool). t || list_any (covers block) rest) (sym (farther (r.start + r.count) far block))
    ∙ reached (max (r.start + r.count) far) rest block k (omega (arith, few))
    (λ j e from to. begun (suc j) e (omega arith) (omega (arith, to)))
    (λ j e from to. behind (suc j) e (omega (arith, from)) (omega (arith, to)))

pub lies_in_runs : (runs : List Run) (reaches : List Reach) (block k : ℕ) → AreReaches runs reaches → k ≤ length reaches
    → AllWithin (λ (r : Reach). r.start ≤ block) reaches 0 k → AllWithin (λ (r : Reach). block < r.start) reaches k (length reaches)
    → nat_lt block (end_before 0 k reaches) ≡ is_taken runs block
unfolding is_taken
lies_in_runs runs reaches block k are few begun behind =
    let sorted = are.sorted in
    let all : length reaches ≡ length sorted = ap length are.is ∙ count_reaches 0 sorted in
    let all_behind : AllWithin (λ (r : Reach). block < r.start) reaches k (length sorted) = λ j d from to. behind j d from (omega (arith, to, all)) in
    let here = reached 0 sorted block k (omega (arith, few, all))
    (subst (λ (rs : List Reach). AllWithin (λ (r : Reach). r.start ≤ block) rs 0 k) are.is begun)
    (subst (λ (rs : List Reach). AllWithin (λ (r : Reach). block < r.start) rs k (length sorted)) are.is all_behind) in
    ap (λ (rs : List Reach). nat_lt block (end_before 0 k rs)) are.is
    ∙ sym here
    ∙ ap (λ (t : Bool). t || list_any (covers block) sorted) (not_below block)
    ∙ sym (list_any-IsPermutation (covers block) runs sorted are.same)

-- one run more, and all
pub reached_more : (now new all : List Reach) (runs : List Run) (i far next : ℕ) (d : Run) → i < length runs → next ≡ max ((get_or runs i d).start + (get_or runs i d).count) far
    → new ≡ now ++ record { start = (get_or runs i d).start; end = next } ∷ [] → now ++ reaches_of far (drop i runs) ≡ all → new ++ reaches_of next (drop (i + 1) runs) ≡ all
reached_more now new all runs i far next d inside is pushed was =
    let r = get_or runs i d in
    let rest = drop (i + 1) runs in
    ap (λ (xs : List Reach). xs ++ reaches_of next rest) pushed
    ∙ append_assoc now (record { start = r.start; end = next } ∷ []) (reaches_of next rest)
    ∙ ap (λ (m : ℕ). now ++ record { start = r.start; end = m } ∷ reaches_of m rest) is
    ∙ ap (λ (rs : List Run). now ++ reaches_of far rs) (sym (drop_more runs i d inside))
    ∙ was

pub reached_all : (now all : List Reach) (runs : List Run) (i far : ℕ) → length runs ≤ i → now ++ reaches_of far (drop i runs) ≡ all → now ≡ all
reached_all now all runs i far past was =
    sym (append-nil now) ∙ ap (λ (rs : List Run). now ++ reaches_of far rs) (sym (drop_all i runs past)) ∙ was

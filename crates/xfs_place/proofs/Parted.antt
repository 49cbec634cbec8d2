-- The claims of one group are a part of claims in order.
use Rattle.std.proofs.Common.{◌≡◌, ℕ, zero, suc, ◌+◌, ◌≤◌, ◌<◌, true, false, nat_le, nat_lt, List, [], ◌∷◌, length, get_or, take, drop, refl, ap, arith}
use Rattle.std.specs.List.{filter}
use Rattle.std.specs.List.Sorted.{IsNonDecreasingBy, IsPartitionPoint}
use Rattle.std.proofs.lemmas.Bool.{le-leb, ltb-true, ltb-false, false_from_ne_true, leb-true}
use Rattle.xfs_geom.specs.declared.records.Run.{Run}
use Rattle.xfs_kinds.specs.MergedRuns.{AreRuns}
use Rattle.xfs_place.specs.Wanted.{begins_in}

abbrev first_block : Run → ℕ
first_block r = r.start

-- the runs before a number of them begin before a block, and the others do not
abbrev pub IsParted : ℕ → List Run → ℕ → Type 0
IsParted block runs n = IsPartitionPoint (λ (r : Run). nat_lt r.start block ≡ true) (λ (r : Run). nat_lt r.start block ≡ false) runs n

parted_rest : (block : ℕ) (r : Run) (rest : List Run) (n : ℕ) → IsParted block (r ∷ rest) (suc n) → IsParted block rest n
parted_rest block r rest n parted = (
  (λ k d low high. parted.0 (suc k) d (omega arith) (omega (arith, high))),
  (λ k d low high. parted.1 (suc k) d (omega (arith, low)) (omega (arith, high))),
)

parted_all : (block : ℕ) (r : Run) (rest : List Run) → IsParted block (r ∷ rest) 0 → IsParted block rest 0
parted_all block r rest parted = (
  (λ k d low high. absurd (omega (arith, high))),
  (λ k d low high. parted.1 (suc k) d (omega arith) (omega (arith, high))),
)

take_none : (n : ℕ) → take {A = Run} n [] ≡ []
take_none zero = refl
take_none (suc n) = refl

-- of runs that do not begin before a block, those that begin before another
front_is : (base blocks : ℕ) (rs : List Run) (n : ℕ) → IsParted base rs 0 → IsParted (base + blocks) rs n → take n rs ≡ filter (begins_in base blocks) rs
front_is base blocks [] n low parted = take_none n
front_is base blocks (r ∷ rest) zero low parted =
    let out : nat_lt r.start (base + blocks) ≡ false = parted.1 0 r (omega arith) (omega arith) in
    let from : nat_le base r.start ≡ true = le-leb base r.start (ltb-false r.start base (low.1 0 r (omega arith) (omega arith))) in
    rw (from, out) (front_is base blocks rest 0 (parted_all base r rest low) (parted_all (base + blocks) r rest parted))
front_is base blocks (r ∷ rest) (suc n) low parted =
    let in' : nat_lt r.start (base + blocks) ≡ true = parted.0 0 r (omega arith) (omega arith) in
    let from : nat_le base r.start ≡ true = le-leb base r.start (ltb-false r.start base (low.1 0 r (omega arith) (omega arith))) in
    rw (from, in') (ap (λ (ys : List Run). r ∷ ys) (front_is base blocks rest n (parted_all base r rest low) (parted_rest (base + blocks) r rest n parted)))

pub part_is : (base blocks : ℕ) (rs : List Run) (s n : ℕ) → IsParted base rs s → IsParted (base + blocks) (drop s rs) n → take n (drop s rs) ≡ filter (begins_in base blocks) rs
part_is base blocks rs zero n low parted = front_is base blocks rs n low parted
part_is base blocks [] (suc s) n low parted = take_none n
part_is base blocks (r ∷ rest) (suc s) n low parted =
    let before : nat_le base r.start ≡ false =
    false_from_ne_true (nat_le base r.start) (λ h. let at = leb-true base r.start h in let under = ltb-true r.start base (low.0 0 r (omega arith) (omega arith)) in omega (arith, at, under)) in
    rw before (part_is base blocks rest s n (parted_rest base r rest s low) parted)

-- runs that ascend, by their first blocks
pub runs_rise : (low : ℕ) (rs : List Run) → AreRuns low rs → IsNonDecreasingBy (λ (r : Run). r.start) rs
runs_rise low rs runs = λ i j d before in'. rise low rs i j d runs before in'
  where
    from : (low : ℕ) (rs : List Run) (j : ℕ) (d : Run) → AreRuns low rs → j < length rs → low ≤ (get_or rs j d).start
    from low [] j d runs in' = absurd (omega (arith, in'))
    from low (r ∷ rest) zero d runs in' = runs.0
    from low (r ∷ rest) (suc j) d runs in' = let next = from (r.start + r.count) rest j d runs.2 (omega (arith, in')) in omega (arith, next, runs.0)

    rise : (low : ℕ) (rs : List Run) (i j : ℕ) (d : Run) → AreRuns low rs → i ≤ j → j < length rs → (get_or rs i d).start ≤ (get_or rs j d).start
    rise low [] i j d runs before in' = absurd (omega (arith, in'))
    rise low (r ∷ rest) zero zero d runs before in' = omega arith
    rise low (r ∷ rest) zero (suc j) d runs before in' = let next = from (r.start + r.count) rest j d runs.2 (omega (arith, in')) in omega (arith, next)
    rise low (r ∷ rest) (suc i) zero d runs before in' = absurd (omega (arith, before))
    rise low (r ∷ rest) (suc i) (suc j) d runs before in' = rise (r.start + r.count) rest i j d runs.2 (omega (arith, before)) (omega (arith, in'))

-- Sums over runs, owner by owner.
use Rattle.std.proofs.Common.{◌≡◌, ◌≢◌, ◌⊎◌, inl, inr, ℕ, zero, suc, Bool, true, false, cond, ◌+◌, ◌==◌, ◌≤◌, ◌<◌, List, [], ◌∷◌, take, drop, refl, sym, ap, ◌∙◌, subst, arith}
use Rattle.std.specs.List.{All, AllByRecursion, range_with_len, sum_by}
use Rattle.std.proofs.lemmas.Bool.{cases_eq, eq-eqb, ne_eqb}
use Rattle.std.proofs.lemmas.List.{take-append-drop}
use Rattle.std.proofs.lemmas.List.Elements.{All-append}
use Rattle.std.proofs.lemmas.List.Sums.{sum_by-cons}
use Rattle.xfs_geom.specs.Volumes.{Volume}
use Rattle.xfs_geom.specs.declared.records.Run.{Run}
use Rattle.xfs_built.proofs.NumberedSums.{sum_each, sum_two}
use Rattle.xfs_filled.specs.Forks.{owned_by}
use Rattle.xfs_filled.specs.Numbers.{number_of}
use Rattle.xfs_filled.specs.Spans.{AreRunsOf}

-- a number that passes a test adds what it has, and others nothing
none_sum : (test : ℕ → Bool) (c a m : ℕ) → ((k : ℕ) → a ≤ k → k < a + m → test k ≡ false) → sum_by (λ k. cond (test k) c 0) (range_with_len a m) ≡ 0
none_sum test c a zero none = refl
none_sum test c a (suc m) none =
    let both = sum_by-cons (λ (k : ℕ). cond (test k) c 0) a (range_with_len (a + 1) m) in
    let here : ◌≡◌ {A = ℕ} (cond (test a) c 0) 0 = ap (λ (t : Bool). cond t c 0) (none a (omega arith) (omega arith)) in
    let rest = none_sum test c (a + 1) m (λ k low high. none k (omega (arith, low)) (omega (arith, high))) in
    omega (arith, both, here, rest)

one_sum : (test : ℕ → Bool) (c a m k : ℕ) → a ≤ k → k < a + m → test k ≡ true → ((j : ℕ) → a ≤ j → j < a + m → j ≢ k → test j ≡ false)
    → sum_by (λ k. cond (test k) c 0) (range_with_len a m) ≡ c
one_sum test c a zero k low high is others = absurd (omega (arith, low, high))
one_sum test c a (suc m) k low high is others =
    by_case (cases_eq a k) (sum_by-cons (λ (k : ℕ). cond (test k) c 0) a (range_with_len (a + 1) m))
    (λ above. one_sum test c (a + 1) m k above (omega (arith, high)) is (λ j from upto differ. others j (omega (arith, from)) (omega (arith, upto)) differ))
  where
    by_case : (a ≡ k) ⊎ (a ≢ k)
        → sum_by (λ k. cond (test k) c 0) (range_with_len a (suc m)) ≡ cond (test a) c 0 + sum_by (λ k. cond (test k) c 0) (range_with_len (a + 1) m)
        → (a + 1 ≤ k → sum_by (λ k. cond (test k) c 0) (range_with_len (a + 1) m) ≡ c) → sum_by (λ k. cond (test k) c 0) (range_with_len a (suc m)) ≡ c
    by_case (inl same) both rest =
        let here : ◌≡◌ {A = ℕ} (cond (test a) c 0) c = ap (λ (t : Bool). cond t c 0) (ap test same ∙ is) in
        let none = none_sum test c (a + 1) m (λ j from upto. others j (omega (arith, from)) (omega (arith, upto)) (λ at. absurd (omega (arith, at, from, same)))) in
        omega (arith, both, here, none)
    by_case (inr other) both rest =
        let here : ◌≡◌ {A = ℕ} (cond (test a) c 0) 0 = ap (λ (t : Bool). cond t c 0) (others a (omega arith) (omega arith) other) in
        let behind = rest (omega (arith, low, other)) in
        omega (arith, both, here, behind)

zero_sum : (a m : ℕ) → sum_by (λ (k : ℕ). 0) (range_with_len a m) ≡ 0
zero_sum a zero = refl
zero_sum a (suc m) =
    let both = sum_by-cons (λ (k : ℕ). 0) a (range_with_len (a + 1) m) in
    let rest = zero_sum (a + 1) m in
    omega (arith, both, rest)

-- a run has an owner among numbers
pub record IsOwnedBy (number : ℕ → ℕ) (n : ℕ) (r : Run) : Type 0 where
  pub place : ℕ
  pub low : place < n
  pub is : r.owner ≡ number place

filter_sum : (f : Run → ℕ) (owner : ℕ) (r : Run) (runs : List Run) → sum_by f (owned_by owner (r ∷ runs)) ≡ cond (r.owner == owner) (f r) 0 + sum_by f (owned_by owner runs)
filter_sum f owner r runs = by_case (r.owner == owner)
  where
    by_case : (t : Bool) → sum_by f (cond t (r ∷ owned_by owner runs) (owned_by owner runs)) ≡ cond t (f r) 0 + sum_by f (owned_by owner runs)
    by_case true = sum_by-cons f r (owned_by owner runs)
    by_case false = omega arith

-- the runs of all owners are all runs
module _ (f : Run → ℕ) (number : ℕ → ℕ) (n : ℕ) (differ : (i j : ℕ) → i < n → j < n → i ≢ j → number i ≢ number j) where
  pub owners_sum : (runs : List Run) → AllByRecursion (IsOwnedBy number n) runs → sum_by (λ k. sum_by f (owned_by (number k) runs)) (range_with_len 0 n) ≡ sum_by f runs
  owners_sum [] all = zero_sum 0 n
  owners_sum (r ∷ runs) all =
      let own = all.0 in
      let low = own.low in
      let split = sum_each (λ (k : ℕ). sum_by f (owned_by (number k) (r ∷ runs))) (λ (k : ℕ). cond (r.owner == number k) (f r) 0 + sum_by f (owned_by (number k) runs)) (range_with_len 0 n)
      (λ k is. filter_sum f (number k) r runs) in
      let both = sum_two (λ (k : ℕ). cond (r.owner == number k) (f r) 0) (λ (k : ℕ). sum_by f (owned_by (number k) runs)) (range_with_len 0 n) in
      let one = one_sum (λ (k : ℕ). r.owner == number k) (f r) 0 n own.place (omega arith) (omega (arith, low)) (eq-eqb r.owner (number own.place) own.is)
      (λ j from upto other. ne_eqb r.owner (number j) (λ same. differ j own.place (omega (arith, upto)) own.low other (sym same ∙ own.is))) in
      let rest = owners_sum runs all.1 in
      let whole = sum_by-cons f r runs in
      omega (arith, split, both, one, rest, whole)

-- runs that stand in the order of files are owned by them
pub runs_owned : (v : Volume) (starts : List ℕ) (n : ℕ) (ks : List ℕ) (runs : List Run) → All (λ k. k < n) ks → AreRunsOf v starts ks runs → All (IsOwnedBy (number_of v starts) n) runs
runs_owned v starts n [] runs inside are = subst (All (IsOwnedBy (number_of v starts) n)) (sym are) (λ k d low. absurd (omega (arith, low)))
runs_owned v starts n (k ∷ ks) runs inside are =
    let m = are.0 in
    subst (All (IsOwnedBy (number_of v starts) n)) (take-append-drop m runs)
    (All-append (IsOwnedBy (number_of v starts) n) (take m runs) (drop m runs) (λ i d low. record { place = k; low = inside zero 0 (omega arith); is = are.2 i d low })
    (runs_owned v starts n ks (drop m runs) (λ i d low. inside (suc i) d (omega (arith, low))) are.4))

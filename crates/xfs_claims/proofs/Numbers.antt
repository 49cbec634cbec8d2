-- Ascending numbers, as an ordered set of the library holds them.
use Rattle.std.proofs.Common.{◌≡◌, ℕ, Bool, true, false, ◌+◌, ◌<◌, inl, inr, ◌&&◌, ◌||◌, ◌==◌, nat_lt, length, drop, get_or, add-one, drop-cons, List, [], ◌∷◌, refl, ◌∙◌, ap, ap₂, arith}
use Rattle.std.specs.Ordering.{nat_cmp}
use Rattle.std.specs.List.{list_any}
use Rattle.std.specs.BTreeMap.{is_at}
use Rattle.std.specs.BTreeSet.{insert_key}
use Rattle.std.proofs.lemmas.Bool.{cases_order, both_ways}
use Rattle.std.proofs.lemmas.Bool.Decides.{nat_tests}
use Rattle.xfs_disk.specs.Lists.{is_among, with_number}
use Rattle.xfs_volume.specs.declared.clusters.ClusterRec.{ClusterRec}
use Rattle.xfs_claims.specs.Ranks.{is_recorded_cluster}

abbrev pub no_cluster : ClusterRec
no_cluster = record { block = 0; recorded = false }

-- a number that is put into a set comes to its place
pub insert_is : (n : ℕ) (numbers : List ℕ) → insert_key nat_cmp numbers n ≡ with_number n numbers
insert_is n [] = refl
insert_is n (m ∷ rest) =
    elim (cases_order n m) [
      | inl same ↦ let e : nat_lt n m ≡ false = grind (arith, nat_tests) in let f : (n == m) ≡ true = grind (arith, nat_tests) in rw (e, f) refl
      | inr other ↦ elim other [
        | inl lt ↦ let e : nat_lt n m ≡ true = grind (arith, nat_tests) in rw e refl
        | inr gt ↦ let e : nat_lt n m ≡ false = grind (arith, nat_tests) in
            let f : (n == m) ≡ false = grind (arith, nat_tests) in
            rw (e, f) (ap (λ (xs : List ℕ). m ∷ xs) (insert_is n rest))
      ]
    ]

at_is : (n m : ℕ) → is_at (nat_cmp n) m ≡ (m == n)
at_is n m =
    elim (cases_order n m) [
      | inl same ↦ let e : nat_lt n m ≡ false = grind (arith, nat_tests) in
          let f : (n == m) ≡ true = grind (arith, nat_tests) in
          let h : (m == n) ≡ true = grind (arith, nat_tests) in
          rw (e, f, h) refl
      | inr other ↦ elim other [
        | inl lt ↦ let e : nat_lt n m ≡ true = grind (arith, nat_tests) in
            let h : (m == n) ≡ false = grind (arith, nat_tests) in
            rw (e, h) refl
        | inr gt ↦ let e : nat_lt n m ≡ false = grind (arith, nat_tests) in
            let f : (n == m) ≡ false = grind (arith, nat_tests) in
            let h : (m == n) ≡ false = grind (arith, nat_tests) in
            rw (e, f, h) refl
      ]
    ]

-- a number that a set is asked for
pub asked_is : (n : ℕ) (numbers : List ℕ) → list_any (is_at (nat_cmp n)) numbers ≡ is_among numbers n
asked_is n [] = refl
asked_is n (m ∷ rest) = ap₂ (λ (s t : Bool). s || t) (at_is n m) (asked_is n rest)

or_first : (x y z : Bool) → (x || (y || z)) ≡ (y || (x || z))
or_first true true z = refl
or_first true false z = refl
or_first false true z = refl
or_first false false z = refl

or_twice : (x z : Bool) → (x || z) ≡ (x || (x || z))
or_twice true z = refl
or_twice false z = refl

-- the numbers with one more have that one and the others
pub among_more : (n : ℕ) (numbers : List ℕ) (b : ℕ) → is_among (with_number n numbers) b ≡ ((n == b) || is_among numbers b)
among_more n [] b = refl
among_more n (m ∷ rest) b =
    elim (cases_order n m) [
      | inl same ↦ let e : nat_lt n m ≡ false = grind (arith, nat_tests) in
          let f : (n == m) ≡ true = grind (arith, nat_tests) in
          rw (e, f, same) (or_twice (m == b) (is_among rest b))
      | inr other ↦ elim other [
        | inl lt ↦ let e : nat_lt n m ≡ true = grind (arith, nat_tests) in rw e refl
        | inr gt ↦ let e : nat_lt n m ≡ false = grind (arith, nat_tests) in
            let f : (n == m) ≡ false = grind (arith, nat_tests) in
            rw (e, f) (ap (λ (t : Bool). (m == b) || t) (among_more n rest b) ∙ or_first (m == b) (n == b) (is_among rest b))
      ]
    ]

or_grouped : (x y z a : Bool) → a ≡ true → ((x || y) || z) ≡ (y || ((a && x) || z))
or_grouped x true z true e = or_true x
  where
    or_true : (x : Bool) → ((x || true) || z) ≡ true
    or_true true = refl
    or_true false = refl
or_grouped true false z true e = refl
or_grouped false false z true e = refl
or_grouped x y z false e = absurd (both_ways false refl e)

-- a recorded cluster that is put among the blocks leaves what was told of all
pub recorded_step : (clusters : List ClusterRec) (i b : ℕ) (keys new : List ℕ) → i < length clusters → (get_or clusters i no_cluster).recorded ≡ true
    → new ≡ insert_key nat_cmp keys (get_or clusters i no_cluster).block
    → (is_among new b || is_recorded_cluster (drop (i + 1) clusters) b) ≡ (is_among keys b || is_recorded_cluster (drop i clusters) b)
recorded_step clusters i b keys new inside recorded more =
    let c : ClusterRec = get_or clusters i no_cluster in
    let next : drop i clusters ≡ c ∷ drop (i + 1) clusters = rw (add-one, drop-cons clusters i no_cluster inside) refl in
    let among : is_among new b ≡ ((c.block == b) || is_among keys b) = ap (λ (x : List ℕ). is_among x b) (more ∙ insert_is c.block keys) ∙ among_more c.block keys b in
    rw (among, next) (or_grouped (c.block == b) (is_among keys b) (is_recorded_cluster (drop (i + 1) clusters) b) c.recorded recorded)

-- and so does a scanned one that is passed over
pub scanned_step : (clusters : List ClusterRec) (i b : ℕ) → i < length clusters → (get_or clusters i no_cluster).recorded ≡ false
    → is_recorded_cluster (drop (i + 1) clusters) b ≡ is_recorded_cluster (drop i clusters) b
scanned_step clusters i b inside recorded =
    let c : ClusterRec = get_or clusters i no_cluster in
    let next : drop i clusters ≡ c ∷ drop (i + 1) clusters = rw (add-one, drop-cons clusters i no_cluster inside) refl in
    let here : (c.recorded && (c.block == b)) ≡ false = rw recorded refl in
    rw (next, here) refl

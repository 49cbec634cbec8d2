-- The records of one number are a run of records in order; what is asked of them is asked of the run.
use Rattle.std.proofs.Common.{◌≡◌, ℕ, zero, suc, ◌<◌, ◌≤◌, Bool, true, false, cond, not, ◌&&◌, ◌||◌, ◌==◌, List, [], ◌∷◌, length, take, drop, filter, get_or, Some, refl, sym, ap, ◌+◌, arith, inl, inr}
use lib.Dec.{ltb, leb}
use Rattle.std.specs.List.{list_any, AllWithin, slice_get, prefix_len}
use Rattle.xfs_volume.specs.declared.files.FileRec.{FileRec}
use Rattle.xfs_naming.specs.Naming.{file_at}
use Rattle.std.specs.List.Sorted.{IsPartitionPoint, IsNonDecreasingBy}
use Rattle.std.proofs.lemmas.Bool.{ltb-true, ltb-false, leb-false, lt-leb, eq-eqb, ne_eqb, cases_eq, cases_lt}
use Rattle.std.proofs.lemmas.Bool.Decides.{nat_tests}

-- records that are all greater have none of the number
pub none_greater : {X : Type 0} (n : X → ℕ) (v : ℕ) (xs : List X) → AllWithin (λ (y : X). leb (n y) v ≡ false) xs 0 (length xs) → filter (λ (x : X). n x == v) xs ≡ []
none_greater n v [] above = refl
none_greater n v (x ∷ xs) above =
    let here : v < n x = leb-false (n x) v (above 0 x (omega arith) (omega arith)) in
    let apart : n x == v ≡ false = grind (arith, nat_tests) in
    rw apart (none_greater n v xs (λ k d low high. above (suc k) d (omega arith) (omega arith)))

-- the run at the front
run_here : {X : Type 0} (n : X → ℕ) (v : ℕ) (xs : List X) → AllWithin (λ (y : X). ltb (n y) v ≡ false) xs 0 (length xs) → IsNonDecreasingBy n xs
    → take (prefix_len (λ (x : X). n x == v) xs) xs ≡ filter (λ (x : X). n x == v) xs
run_here n v [] from rises = refl
run_here {X = X} n v (x ∷ xs) from rises = elim (cases_eq (n x) v) [
  | inl is ↦ (let same : n x == v ≡ true = eq-eqb (n x) v is in
      let more : 1 + prefix_len (λ (y : X). n y == v) xs ≡ suc (prefix_len (λ (y : X). n y == v) xs) = omega arith in
      rw (same, more) (ap (λ (ys : List X). x ∷ ys) (run_here n v xs (λ k d l h. from (suc k) d (omega arith) (omega arith)) (λ i j d l h. rises (suc i) (suc j) d (omega arith) (omega arith)))))
  | inr away ↦ (let apart : n x == v ≡ false = ne_eqb (n x) v away in
      let low : v ≤ n x = ltb-false (n x) v (from 0 x (omega arith) (omega arith)) in
      rw apart (sym (none_greater n v xs (λ k d l h. lt-leb (n (get_or xs k d)) v (above low away (rises 0 (suc k) d (omega arith) (omega arith)))))))
]
  where
    above : {m : ℕ} → v ≤ n x → (n x ≡ v → ⊥) → n x ≤ m → v < m
    above {m} low away le = elim (cases_lt v (n x)) [ inl less ↦ omega arith | inr more ↦ absurd (away (omega arith)) ]

-- the run behind those that are less
pub run_is : {X : Type 0} (n : X → ℕ) (v : ℕ) (xs : List X) (s : ℕ) → IsPartitionPoint (λ (y : X). ltb (n y) v ≡ true) (λ (y : X). ltb (n y) v ≡ false) xs s → IsNonDecreasingBy n xs
    → take (prefix_len (λ (x : X). n x == v) (drop s xs)) (drop s xs) ≡ filter (λ (x : X). n x == v) xs
run_is n v xs zero first rises = run_here n v xs first.1 rises
run_is n v [] (suc s) first rises = refl
run_is n v (x ∷ xs) (suc s) first rises =
    let less : n x < v = ltb-true (n x) v (first.0 0 x (omega arith) (omega arith)) in
    let apart : n x == v ≡ false = grind (arith, nat_tests) in
    rw apart (run_is n v xs s
    ((λ k d l h. first.0 (suc k) d (omega arith) (omega arith)), (λ k d l h. first.1 (suc k) d (omega arith) (omega arith)))
    (λ i j d l h. rises (suc i) (suc j) d (omega arith) (omega arith)))

-- one of the records of a number passes
pub any_of_run : {X : Type 0} (p q : X → Bool) (xs : List X) → list_any q (filter p xs) ≡ list_any (λ (x : X). p x && q x) xs
any_of_run p q [] = refl
any_of_run {X = X} p q (x ∷ xs) = either (p x) (any_of_run p q xs)
  where
    either : (t : Bool) → list_any q (filter p xs) ≡ list_any (λ (x : X). p x && q x) xs → list_any q (cond t (x ∷ filter p xs) (filter p xs)) ≡ ((t && q x) || list_any (λ (x : X). p x && q x) xs)
    either true rest = ap (λ (b : Bool). q x || b) rest
    either false rest = rest

-- a length that is not 0
has_some : (n : ℕ) → not (suc n == 0) ≡ true
has_some n = grind (arith, nat_tests)

-- some record has the number
pub any_in_run : {X : Type 0} (p : X → Bool) (xs : List X) → not (length (filter p xs) == 0) ≡ list_any p xs
any_in_run p [] = refl
any_in_run {X = X} p (x ∷ xs) = either (p x) (any_in_run p xs)
  where
    either : (t : Bool) → not (length (filter p xs) == 0) ≡ list_any p xs → not (length (cond t (x ∷ filter p xs) (filter p xs)) == 0) ≡ (t || list_any p xs)
    either true rest = has_some (length (filter p xs))
    either false rest = rest

-- the first record of a run
pub first_of_run : (files : List FileRec) (ino : ℕ) → slice_get (filter (λ (f : FileRec). f.ino == ino) files) 0 ≡ file_at files ino
first_of_run [] ino = refl
first_of_run (f ∷ fs) ino = either (f.ino == ino) (first_of_run fs ino)
  where
    either : (t : Bool) → slice_get (filter (λ (f : FileRec). f.ino == ino) fs) 0 ≡ file_at fs ino
        → slice_get (cond t (f ∷ filter (λ (f : FileRec). f.ino == ino) fs) (filter (λ (f : FileRec). f.ino == ino) fs)) 0 ≡ cond t (Some f) (file_at fs ino)
    either true rest = refl
    either false rest = rest

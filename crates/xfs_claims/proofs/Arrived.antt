-- Numbers that come one after the other to a list that ascends.
use Rattle.std.proofs.Common.{◌≡◌, ℕ, suc, Bool, true, false, cond, ◌+◌, ◌≤◌, ◌<◌, ◌==◌, nat_lt, List, [], ◌∷◌, ◌++◌, drop, get_or, length, refl, sym, ◌∙◌, ap, subst, arith, add-one, drop-cons, append-nil}
use Rattle.std.specs.List.{AllByRecursion}
use Rattle.std.specs.Ordering.{nat_cmp}
use Rattle.std.specs.BTreeSet.{insert_key}
use Rattle.std.proofs.lemmas.Bool.Decides.{nat_tests}
use Rattle.std.proofs.lemmas.List.{append_assoc}
use Rattle.xfs_disk.specs.Lists.{with_number}
use Rattle.xfs_claims.specs.Private.Arrived.{AscendFrom, arrived}
use Rattle.xfs_claims.proofs.Numbers.{insert_is}

-- one that comes last is put among those that came before
pub arrived_more : (held numbers : List ℕ) (n : ℕ) → arrived held (numbers ++ n ∷ []) ≡ with_number n (arrived held numbers)
arrived_more held [] n = refl
arrived_more held (m ∷ rest) n = arrived_more (with_number m held) rest n

-- a number above all has its place behind them
with_last : (n : ℕ) (held : List ℕ) → AllByRecursion (λ m. m < n) held → with_number n held ≡ held ++ n ∷ []
with_last n [] below = refl
with_last n (m ∷ rest) below =
    let lt = below.0 in
    let e : nat_lt n m ≡ false = grind (arith, nat_tests, lt) in
    let f : (n == m) ≡ false = grind (arith, nat_tests, lt) in
    rw (e, f) (ap (λ (xs : List ℕ). m ∷ xs) (with_last n rest below.1))

below_next : (low n : ℕ) (held : List ℕ) → low ≤ n → AllByRecursion (λ m. m < low) held → AllByRecursion (λ m. m < suc n) (held ++ n ∷ [])
below_next low n [] le below = (omega arith, tt)
below_next low n (m ∷ rest) le below = let lt = below.0 in (omega (arith, lt, le), below_next low n rest le below.1)

-- numbers of which each is above the one in front of it stay as they came
pub as_they_came : (low : ℕ) (held numbers : List ℕ) → AllByRecursion (λ m. m < low) held → AscendFrom low numbers → arrived held numbers ≡ held ++ numbers
as_they_came low held [] below up = sym (append-nil held)
as_they_came low held (n ∷ rest) below up =
    let all : AllByRecursion (λ m. m < n) held = weaker held below in
    ap (λ (xs : List ℕ). arrived xs rest) (with_last n held all)
    ∙ (as_they_came (suc n) (held ++ n ∷ []) rest (below_next low n held up.0 below) up.1 ∙ append_assoc held (n ∷ []) rest)
  where
    weaker : (xs : List ℕ) → AllByRecursion (λ m. m < low) xs → AllByRecursion (λ m. m < n) xs
    weaker [] h = tt
    weaker (x ∷ xs) h = let lt = h.0 in let le = up.0 in (omega (arith, lt, le), weaker xs h.1)

-- a number that is put into a set is one that came
pub arrived_step : (numbers : List ℕ) (i : ℕ) (keys new : List ℕ) (n : ℕ) → i < length numbers → get_or numbers i 0 ≡ n → new ≡ insert_key nat_cmp keys n
    → arrived new (drop (i + 1) numbers) ≡ arrived keys (drop i numbers)
arrived_step numbers i keys new n inside is more =
    let next : drop i numbers ≡ n ∷ drop (i + 1) numbers = subst (λ (m : ℕ). drop i numbers ≡ m ∷ drop (i + 1) numbers) is (rw (add-one, drop-cons numbers i 0 inside) refl) in
    ap (λ (xs : List ℕ). arrived xs (drop (i + 1) numbers)) (more ∙ insert_is n keys) ∙ sym (ap (λ (xs : List ℕ). arrived keys xs) next)

-- Examples of guarded files.
use Rattle.std.proofs.Common.{◌≡◌, ℕ, Bool, true, false, ◌+◌, inl, inr, nat_le, List, [], ◌∷◌, refl, arith}
use Rattle.std.specs.List.{list_all}
use Rattle.std.proofs.lemmas.Bool.{and_parts, leb-true, ltb-true, or_cases, or_from}
use Rattle.std.proofs.lemmas.Bool.Decides.{nat_tests}
use Rattle.xfs_collections.specs.Blocks.{run_has, is_in}
use Rattle.xfs_claims.specs.Spans.{spans_apart}
use Rattle.xfs_image.specs.Claims.{AreDisjointSets}

-- runs that are apart, each from each, have no block in common
one_apart : (x y : ℕ × ℕ) (b : ℕ) → spans_apart x y ≡ true → run_has b x ≡ true → run_has b y ≡ false
one_apart x y b apart on =
    let at = and_parts (nat_le x.0 b) _ on in
    let low = leb-true x.0 b at.0 in
    let high = ltb-true b (x.0 + x.1) at.1 in
    elim (or_cases (nat_le (x.0 + x.1) y.0) (nat_le (y.0 + y.1) x.0) apart) [
      | inl e ↦ grind (arith, nat_tests, e, low, high)
      | inr e ↦ grind (arith, nat_tests, e, low, high)
    ]

pub run_apart : (x : ℕ × ℕ) (ys : List (ℕ × ℕ)) (b : ℕ) → list_all (spans_apart x) ys ≡ true → run_has b x ≡ true → is_in ys b ≡ false
run_apart x [] b apart on = refl
run_apart x (y ∷ ys) b apart on =
    let both = and_parts (spans_apart x y) (list_all (spans_apart x) ys) apart in
    or_from (run_has b y) (is_in ys b) (one_apart x y b both.0 on) (run_apart x ys b both.1 on)

abbrev pub all_apart : List (ℕ × ℕ) → List (ℕ × ℕ) → Bool
all_apart xs ys = list_all (λ x. list_all (spans_apart x) ys) xs

pub apart_by_runs : (xs ys : List (ℕ × ℕ)) → all_apart xs ys ≡ true → AreDisjointSets (is_in xs) (is_in ys)
apart_by_runs [] ys apart b on = absurd cc
apart_by_runs (x ∷ xs) ys apart b on =
    let both = and_parts (list_all (spans_apart x) ys) (all_apart xs ys) apart in
    elim (or_cases (run_has b x) (is_in xs b) on) [ inl here ↦ run_apart x ys b both.0 here | inr there ↦ apart_by_runs xs ys both.1 b there ]

-- Tests on numbers, pairs and lists, and the words for them.
use Rattle.std.proofs.Common.{◌≡◌, ℕ, zero, suc, ◌+◌, ◌<◌, ◌≤◌, Bool, true, false, cond, ◌==◌, nat_le, List, [], ◌∷◌, ◌++◌, refl, sym, ap₂, subst, arith, inl, inr}
use Rattle.std.specs.List.{All, list_all, range_with_len}
use Rattle.std.proofs.lemmas.Bool.{and_parts, and_from, cases_lt, eqb-true, eq-eqb, le-leb, leb-true}
use Rattle.std.proofs.lemmas.List.Elements.{All-cons, All-head, All-nil, All-tail, All-weaker}
use Rattle.std.proofs.lemmas.List.Kept.{AllPairs-cons}
use Rattle.std.proofs.lemmas.List.Sums.{sum_by-append, sum_by-cons}
use Rattle.xfs_dirindex.specs.Pairs.{same_pairs, is_pair, rises, times}
use Rattle.xfs_dirindex.specs.declared.pairs.Pair.{Pair}
use Rattle.xfs_views.specs.DirectoriesInWords.{AreSame, HashesAscend}

-- all pass a test
pub all_say : {X : Type 0} (p : X → Bool) (P : X → Type 0) → ((x : X) → p x ≡ true → P x) → (xs : List X) → list_all p xs ≡ true → All P xs
all_say p P each [] all = All-nil P
all_say p P each (x ∷ xs) all =
    let parts = and_parts (p x) (list_all p xs) all in
    All-cons P x xs (each x parts.0) (all_say p P each xs parts.1)

pub all_pass : {X : Type 0} (p : X → Bool) (P : X → Type 0) → ((x : X) → P x → p x ≡ true) → (xs : List X) → All P xs → list_all p xs ≡ true
all_pass p P each [] all = refl
all_pass p P each (x ∷ xs) all = and_from (p x) (list_all p xs) (each x (All-head P x xs all)) (all_pass p P each xs (All-tail P x xs all))

-- all numbers of a range
pub range_says : (p : ℕ → Bool) (from count : ℕ) → list_all p (range_with_len from count) ≡ true → (j : ℕ) → j < count → p (from + j) ≡ true
range_says p from zero all j less = absurd (omega (arith, less))
range_says p from (suc count) all zero less =
    let same : from ≡ from + 0 = omega arith in
    subst (λ (n : ℕ). p n ≡ true) same (and_parts (p from) _ all).0
range_says p from (suc count) all (suc j) less =
    let same : (from + 1) + j ≡ from + suc j = omega arith in
    subst (λ (n : ℕ). p n ≡ true) same (range_says p (from + 1) count (and_parts (p from) _ all).1 j (omega (arith, less)))

pub range_passes : (p : ℕ → Bool) (from count : ℕ) → ((j : ℕ) → j < count → p (from + j) ≡ true) → list_all p (range_with_len from count) ≡ true
range_passes p from zero each = refl
range_passes p from (suc count) each =
    let here : from + 0 ≡ from = omega arith in
    and_from (p from) _ (subst (λ (n : ℕ). p n ≡ true) here (each 0 (omega arith)))
    (range_passes p (from + 1) count (λ (j : ℕ) less. let same : from + suc j ≡ (from + 1) + j = omega arith in
    subst (λ (n : ℕ). p n ≡ true) same (each (suc j) (omega (arith, less)))))

-- hashes do not descend
pub rise_says : (least : ℕ) (ps : List Pair) → rises least ps ≡ true → All (λ (p : Pair). least ≤ p.hash) ps × HashesAscend ps
rise_says least [] up = (All-nil (λ (p : Pair). least ≤ p.hash), λ i j d lt within. absurd (omega (arith, within)))
rise_says least (p ∷ ps) up =
    let parts = and_parts (nat_le least p.hash) (rises p.hash ps) up in
    let first : least ≤ p.hash = leb-true least p.hash parts.0 in
    let rest = rise_says p.hash ps parts.1 in (
      All-cons (λ (q : Pair). least ≤ q.hash) p ps first (All-weaker (λ (q : Pair). p.hash ≤ q.hash) (λ (q : Pair). least ≤ q.hash) (λ q more. omega (arith, first, more)) ps rest.0),
      AllPairs-cons (λ (a b : Pair). a.hash ≤ b.hash) p ps rest.0 rest.1,
    )

pub rise_passes : (least : ℕ) (ps : List Pair) → All (λ (p : Pair). least ≤ p.hash) ps → HashesAscend ps → rises least ps ≡ true
rise_passes least [] all up = refl
rise_passes least (p ∷ ps) all up =
    and_from (nat_le least p.hash) (rises p.hash ps) (le-leb least p.hash (All-head (λ (q : Pair). least ≤ q.hash) p ps all))
    (rise_passes p.hash ps (λ k d lt. up 0 (suc k) d (omega arith) (omega (arith, lt)))
    (λ i j d lt within. up (suc i) (suc j) d (omega (arith, lt)) (omega (arith, within))))

-- each pair stands in one list as often as in the other
pair_one : (x y : Pair) → is_pair x y ≡ true → x ≡ y
pair_one x y e =
    let parts = and_parts (x.hash == y.hash) (x.address == y.address) e in
    let h : x.hash ≡ y.hash = eqb-true x.hash y.hash parts.0 in
    let a : x.address ≡ y.address = eqb-true x.address y.address parts.1 in
    ap₂ (λ (h a : ℕ). let p : Pair = record { hash = h; address = a } in p) h a

-- what is in a list whose elements all pass a test passes it
there_passes : (test : Pair → Bool) (y : Pair) (xs : List Pair) → list_all test xs ≡ true → 1 ≤ times y xs → test y ≡ true
there_passes test y [] all some = absurd (omega (arith, some))
there_passes test y (x ∷ xs) all some =
    let parts = and_parts (test x) (list_all test xs) all in
    by_head (is_pair y x) refl (λ e. there_passes test y xs parts.1 e)
  where
    by_head : (t : Bool) → is_pair y x ≡ t → (1 ≤ times y xs → test y ≡ true) → test y ≡ true
    by_head true is rest = subst (λ (z : Pair). test z ≡ true) (sym (pair_one y x is)) (and_parts (test x) (list_all test xs) all).0
    by_head false is rest =
        let more : times y (x ∷ xs) ≡ cond (is_pair y x) 1 0 + times y xs = sum_by-cons (λ (z : Pair). cond (is_pair y z) 1 0) x xs in
        let none : ◌≡◌ {A = ℕ} (cond (is_pair y x) 1 0) 0 = rw is refl in
        rest (omega (arith, some, more, none))

all_true : (test : Pair → Bool) → ((p : Pair) → test p ≡ true) → (xs : List Pair) → list_all test xs ≡ true
all_true test each [] = refl
all_true test each (x ∷ xs) = and_from (test x) (list_all test xs) (each x) (all_true test each xs)

pub same_passes : (xs ys : List Pair) → AreSame xs ys → same_pairs xs ys ≡ true
unfolding same_pairs
same_passes xs ys each = all_true (λ p. times p xs == times p ys) (λ p. eq-eqb (times p xs) (times p ys) (each p)) (xs ++ ys)

pub same_says : (xs ys : List Pair) → same_pairs xs ys ≡ true → AreSame xs ys
unfolding same_pairs
same_says xs ys same p =
    let both : times p (xs ++ ys) ≡ times p xs + times p ys = sum_by-append (λ (q : Pair). cond (is_pair p q) 1 0) xs ys in
    elim (cases_lt 0 (times p (xs ++ ys))) [
      | inl some ↦ eqb-true (times p xs) (times p ys) (there_passes (λ q. times q xs == times q ys) p (xs ++ ys) same (omega (arith, some)))
      | inr none ↦ omega (arith, none, both)
    ]

-- Laws that are kept: what each says.
use Rattle.std.proofs.Common.{◌≡◌, ℕ, zero, suc, ◌<◌, Bool, true, false, cond, ◌||◌, ◌==◌, nat_lt, List, [], ◌∷◌, ◌++◌, length, map, filter, get_or, Option, Some, None, refl, sym, ap, ◌∙◌, subst, arith, inl, inr}
use Rattle.std.specs.List.{list_all, All}
use Rattle.std.proofs.lemmas.Bool.{and_parts, or_cases, eqb-true, true≢false, cases_order}
use Rattle.std.proofs.lemmas.Bool.Decides.{nat_tests}
use Rattle.xfs_volume.specs.declared.files.FileRec.{FileRec}
use Rattle.xfs_volume.specs.declared.findings.Law.{Law}
use Rattle.xfs_volume.specs.Laws.{first_broken}
use Rattle.xfs_naming.specs.Naming.{first_failing, numbers_of, is_in_use}
use Rattle.xfs_disk.specs.Lists.{with_number}
use Rattle.xfs_naming.specs.Private.Walking.{is_walked}
use Rattle.xfs_naming.proofs.Broken.{first_of}

-- lists of which no law is broken, one behind the other
pub kept_front : (ls more : List Law) → first_broken (ls ++ more) ≡ None → first_broken ls ≡ None
unfolding first_broken
kept_front [] more none = refl
kept_front (l ∷ ls) more none = either (l.held == l.due) (kept_front ls more) none
  where
    either : (t : Bool) → (first_broken (ls ++ more) ≡ None → first_broken ls ≡ None) → cond t (first_broken (ls ++ more)) (Some l) ≡ None → cond t (first_broken ls) (Some l) ≡ None
    either true rest none = rest none
    either false rest none = none

pub kept_behind : (ls more : List Law) → first_broken (ls ++ more) ≡ None → first_broken more ≡ None
unfolding first_broken
kept_behind [] more none = none
kept_behind (l ∷ ls) more none = either (l.held == l.due) (kept_behind ls more) none
  where
    either : (t : Bool) → (first_broken (ls ++ more) ≡ None → first_broken more ≡ None) → cond t (first_broken (ls ++ more)) (Some l) ≡ None → first_broken more ≡ None
    either true rest none = rest none
    either false rest none = cc

-- each of them is kept
pub kept_each : {X : Type 0} (f : X → Law) (xs : List X) → first_broken (map f xs) ≡ None → All (λ (x : X). (f x).held ≡ (f x).due) xs
kept_each f [] none k d h = absurd (omega arith)
kept_each {X} f (x ∷ xs) none zero d h = either (f x).held (f x).due (first_broken (map f xs)) (f x) (sym (first_of (f x) (map f xs)) ∙ none)
  where
    either : (a b : ℕ) (rest : Option Law) (l : Law) → cond (a == b) rest (Some l) ≡ None → a ≡ b
    either a b rest l none = on (a == b) refl none
      where
        on : (t : Bool) → a == b ≡ t → cond t rest (Some l) ≡ None → a ≡ b
        on true same none = eqb-true a b same
        on false same none = cc
kept_each {X} f (x ∷ xs) none (suc k) d h = kept_each f xs (rest ((f x).held == (f x).due) (sym (first_of (f x) (map f xs)) ∙ none)) k d (omega arith)
  where
    rest : (t : Bool) → cond t (first_broken (map f xs)) (Some (f x)) ≡ None → first_broken (map f xs) ≡ None
    rest true none = none
    rest false none = cc

pub kept_at : (f : ℕ → Law) (ns : List ℕ) → first_broken (map f ns) ≡ None → (n : ℕ) → is_walked ns n ≡ true → (f n).held ≡ (f n).due
kept_at f [] none n h = absurd (true≢false (sym h))
kept_at f (m ∷ ns) none n h = elim (or_cases (n == m) (is_walked ns n) h) [
  | inl here ↦ subst (λ (x : ℕ). (f x).held ≡ (f x).due) (sym (eqb-true n m here)) (kept_each f (m ∷ ns) none 0 0 (omega arith))
  | inr later ↦ kept_at f ns (rest ((f m).held == (f m).due) (sym (first_of (f m) (map f ns)) ∙ none)) n later
]
  where
    rest : (t : Bool) → cond t (first_broken (map f ns)) (Some (f m)) ≡ None → first_broken (map f ns) ≡ None
    rest true none = none
    rest false none = cc

-- tests of which none fails
pub four_pass : (a b c d : Bool) → first_failing ((1, a) ∷ (2, b) ∷ (3, c) ∷ (4, d) ∷ []) ≡ 0 → (a ≡ true) × (b ≡ true) × (c ≡ true) × (d ≡ true)
four_pass true true true true none = (refl, refl, refl, refl)
four_pass true true true false none = absurd (omega arith)
four_pass true true false d none = absurd (omega arith)
four_pass true false c d none = absurd (omega arith)
four_pass false b c d none = absurd (omega arith)

pub three_pass : (a b c : Bool) → first_failing ((1, a) ∷ (2, b) ∷ (3, c) ∷ []) ≡ 0 → (a ≡ true) × (b ≡ true) × (c ≡ true)
three_pass true true true none = (refl, refl, refl)
three_pass true true false none = absurd (omega arith)
three_pass true false c none = absurd (omega arith)
three_pass false b c none = absurd (omega arith)

pub one_pass : (a : Bool) → first_failing ((4, a) ∷ []) ≡ 0 → a ≡ true
one_pass true none = refl
one_pass false none = absurd (omega arith)

-- the numbers that are looked at
pub in_with : (r : ℕ) (ns : List ℕ) (x : ℕ) → is_walked (with_number r ns) x ≡ (x == r || is_walked ns x)
in_with r [] x = refl
in_with r (n ∷ ns) x = elim (cases_order n r) [
  | inl same ↦ (let behind : nat_lt r n ≡ false = grind (arith, nat_tests) in let here : r == n ≡ true = grind (arith, nat_tests) in
      rw (behind, here) (let e : x == n ≡ x == r = ap (λ (m : ℕ). x == m) same in twice (x == n) (x == r) (is_walked ns x) e))
  | inr apart ↦ elim apart [
    | inl less ↦ (let behind : nat_lt r n ≡ false = grind (arith, nat_tests) in let other : r == n ≡ false = grind (arith, nat_tests) in
        rw (behind, other) (ap (λ (t : Bool). x == n || t) (in_with r ns x) ∙ swapped (x == n) (x == r) (is_walked ns x)))
    | inr more ↦ (let here : nat_lt r n ≡ true = grind (arith, nat_tests) in rw here refl)
  ]
]
  where
    twice : (a b c : Bool) → a ≡ b → (a || c) ≡ (b || (a || c))
    twice true b c e = cc
    twice false true c e = cc
    twice false false c e = refl

    swapped : (a b c : Bool) → (a || (b || c)) ≡ (b || (a || c))
    swapped true true c = refl
    swapped true false c = refl
    swapped false b c = refl

pub in_numbers : (files : List FileRec) (x : ℕ) → is_walked (numbers_of files) x ≡ is_in_use files x
in_numbers [] x = refl
in_numbers (f ∷ fs) x = ap (λ (t : Bool). t || is_walked (numbers_of fs) x) (flip x f.ino) ∙ ap (λ (t : Bool). f.ino == x || t) (in_numbers fs x)
  where
    flip : (a b : ℕ) → a == b ≡ b == a
    flip a b = grind (arith, nat_tests)

-- an element among those that pass a test
pub passes_at : {X : Type 0} (p q : X → Bool) (xs : List X) → list_all p (filter q xs) ≡ true → (k : ℕ) (d : X) → k < length xs → q (get_or xs k d) ≡ true → p (get_or xs k d) ≡ true
passes_at p q [] all k d h at = absurd (omega arith)
passes_at {X} p q (x ∷ xs) all zero d h at = (and_parts (p x) _ (sym (ap (λ (t : Bool). list_all p (cond t (x ∷ filter q xs) (filter q xs))) at) ∙ all)).0
passes_at {X} p q (x ∷ xs) all (suc k) d h at = passes_at p q xs (rest (q x) all) k d (omega arith) at
  where
    rest : (t : Bool) → list_all p (cond t (x ∷ filter q xs) (filter q xs)) ≡ true → list_all p (filter q xs) ≡ true
    rest true all = (and_parts (p x) _ all).1
    rest false all = all

-- The first of two lists of laws that is broken, joined.
use Rattle.std.proofs.Common.{◌≡◌, ℕ, inl, inr, ◌==◌, if◌then◌else◌, List, [], ◌∷◌, ◌++◌, Option, Some, None, sym, ap, ◌∙◌}
use mathlib.Core.List.{append_assoc}
use Rattle.std.proofs.lemmas.Bool.{cases_eq, eq-eqb, ne_eqb, cond-true, cond-false}
use Rattle.xfs_volume.specs.declared.findings.Law.{Law}
use Rattle.xfs_volume.specs.Laws.{AreKept, first_broken}
use Rattle.xfs_volume.proofs.First.{first_behind, first_in}

-- one law before others
pub first_one : (x : Law) (ys : List Law) (l : Law) → first_broken (x ∷ []) ≡ Some l → first_broken (x ∷ ys) ≡ Some l
first_one x ys l found = first_in (x ∷ []) ys l found

pub first_rest : (x : Law) (ys : List Law) → first_broken (x ∷ []) ≡ None → first_broken (x ∷ ys) ≡ first_broken ys
first_rest x ys none = first_behind (x ∷ []) ys none

-- two lists before a third
pub first_in_two : (xs ys zs : List Law) (l : Law) → first_broken (xs ++ ys) ≡ Some l → first_broken (xs ++ (ys ++ zs)) ≡ Some l
first_in_two xs ys zs l found = ap first_broken (sym (append_assoc xs ys zs)) ∙ first_in (xs ++ ys) zs l found

pub first_behind_two : (xs ys zs : List Law) → first_broken (xs ++ ys) ≡ None → first_broken (xs ++ (ys ++ zs)) ≡ first_broken zs
first_behind_two xs ys zs none = ap first_broken (sym (append_assoc xs ys zs)) ∙ first_behind (xs ++ ys) zs none

pub ruleset joined = (first_in, first_behind, first_one, first_rest)

pub ruleset joined_two = (first_in_two, first_behind_two, first_in, first_behind)

pub some_none : (l : Law) → Some l ≡ None → ⊥
some_none l e = cc

-- where none is broken each is kept
kept_here : (held due : ℕ) (here : Law) (rest : Option Law) → (if held == due then rest else Some here) ≡ None → (held ≡ due) × (rest ≡ None)
kept_here held due here rest none = elim (cases_eq held due) [
  | inl same ↦ (same, sym (cond-true (held == due) rest (Some here) (eq-eqb held due same)) ∙ none)
  | inr other ↦ absurd (some_none here (sym (cond-false (held == due) rest (Some here) (ne_eqb held due other)) ∙ none))
]

pub all_kept : (laws : List Law) → first_broken laws ≡ None → AreKept laws
unfolding first_broken
all_kept [] none = tt
all_kept (l ∷ ls) none = let here = kept_here l.held l.due l (first_broken ls) none in (here.0, all_kept ls here.1)

-- How many runs have a block.
use Rattle.std.proofs.Common.{◌≡◌, ◌≢◌, ℕ, Bool, true, cond, ◌+◌, ◌≤◌, inl, inr, List, [], ◌∷◌, ◌++◌, refl, sym, ◌∙◌, ap, arith}
use Rattle.std.specs.List.{flat_map, list_any}
use Rattle.std.proofs.lemmas.List.Sums.{sum_by-append}
use Rattle.xfs_geom.specs.Runs.{covers, runs_on}
use Rattle.xfs_geom.specs.declared.records.Run.{Run}
use Rattle.xfs_laws.proofs.xfs_space.Shared.{on-cons}
use Rattle.xfs_views.proofs.Members.{Member, any_member}

pub on_both : (xs ys : List Run) (b : ℕ) → runs_on (xs ++ ys) b ≡ runs_on xs b + runs_on ys b
on_both xs ys b = sum_by-append (λ r. cond (covers b r) 1 0) xs ys

one_of : (t : Bool) → t ≡ true → ◌≡◌ {A = ℕ} (cond t 1 0) 1
one_of t e = rw e refl

pub on_head : (r : Run) (rs : List Run) (b : ℕ) → covers b r ≡ true → runs_on (r ∷ rs) b ≡ 1 + runs_on rs b
on_head r rs b on = let all = on-cons r rs b in let one = one_of (covers b r) on in omega (arith, all, one)

pub on_tail : (r : Run) (rs : List Run) (b n : ℕ) → n ≤ runs_on rs b → n ≤ runs_on (r ∷ rs) b
on_tail r rs b n some = let all = on-cons r rs b in omega (arith, all, some)

pub member_on : (r : Run) (rs : List Run) (b : ℕ) → Member r rs → covers b r ≡ true → 1 ≤ runs_on rs b
member_on r [] b is on = absurd is
member_on r (x ∷ xs) b is on =
    elim is [
      | inl same ↦ let all = on_head x xs b (ap (covers b) same ∙ on) in omega (arith, all)
      | inr there ↦ on_tail x xs b 1 (member_on r xs b there on)
    ]

pub any_on : (rs : List Run) (b : ℕ) → list_any (covers b) rs ≡ true → 1 ≤ runs_on rs b
any_on rs b some = let one = any_member (covers b) rs some in member_on one.0 rs b one.1 one.2

pub left_on : (xs ys : List Run) (b : ℕ) → 1 ≤ runs_on xs b → 1 ≤ runs_on (xs ++ ys) b
left_on xs ys b some = let all = on_both xs ys b in omega (arith, all, some)

pub right_on : (xs ys : List Run) (b : ℕ) → 1 ≤ runs_on ys b → 1 ≤ runs_on (xs ++ ys) b
right_on xs ys b some = let all = on_both xs ys b in omega (arith, all, some)

pub two_on : (xs ys : List Run) (b : ℕ) → 1 ≤ runs_on xs b → 1 ≤ runs_on ys b → 2 ≤ runs_on (xs ++ ys) b
two_on xs ys b one other = let all = on_both xs ys b in omega (arith, all, one, other)

pub more_on : (xs ys : List Run) (b : ℕ) → 2 ≤ runs_on ys b → 2 ≤ runs_on (xs ++ ys) b
more_on xs ys b two = let all = on_both xs ys b in omega (arith, all, two)

pub flat_on : {X : Type 0} (f : X → List Run) (x : X) (xs : List X) (b : ℕ) → Member x xs → 1 ≤ runs_on (f x) b → 1 ≤ runs_on (flat_map f xs) b
flat_on f x [] b is some = absurd is
flat_on f x (y ∷ ys) b is some =
    elim is [
      | inl same ↦ left_on (f y) (flat_map f ys) b (let e = ap (λ z. runs_on (f z) b) same in omega (arith, e, some))
      | inr there ↦ right_on (f y) (flat_map f ys) b (flat_on f x ys b there some)
    ]

-- two items of different numbers that both have a block
pub flat_two : {X : Type 0} (f : X → List Run) (number : X → ℕ) (x y : X) (xs : List X) (b : ℕ) → Member x xs → Member y xs → number x ≢ number y
    → 1 ≤ runs_on (f x) b → 1 ≤ runs_on (f y) b → 2 ≤ runs_on (flat_map f xs) b
flat_two f number x y [] b is of differ one other = absurd is
flat_two f number x y (z ∷ zs) b is of differ one other =
    elim is [
      | inl first ↦ elim of [
        | inl second ↦ absurd (differ (ap number (sym first ∙ second)))
        | inr there ↦ two_on (f z) (flat_map f zs) b (let e = ap (λ w. runs_on (f w) b) first in omega (arith, e, one)) (flat_on f y zs b there other)
      ]
      | inr here ↦ elim of [
        | inl second ↦ two_on (f z) (flat_map f zs) b (let e = ap (λ w. runs_on (f w) b) second in omega (arith, e, other)) (flat_on f x zs b here one)
        | inr there ↦ more_on (f z) (flat_map f zs) b (flat_two f number x y zs b here there differ one other)
      ]
    ]

-- The first law that is broken, found by going from place to place.
use Rattle.std.proofs.Common.{◌≡◌, ℕ, ◌+◌, ◌<◌, ◌≤◌, Bool, true, false, cond, ◌==◌, List, [], ◌∷◌, ◌++◌, length, drop, get_or, map, Option, Some, None, refl, sym, ap, ◌∙◌, add-one, drop_of_length-le}
use Rattle.std.proofs.Math.Seq.{drop-cons}
use Rattle.xfs_volume.specs.declared.findings.Law.{Law}
use Rattle.xfs_volume.specs.Laws.{first_broken}
use Rattle.xfs_volume.proofs.First.{first_behind, first_empty, first_in}

-- a law is kept, or it is the first that is broken
pub first_of : (l : Law) (ls : List Law) → first_broken (l ∷ ls) ≡ cond (l.held == l.due) (first_broken ls) (Some l)
unfolding first_broken
first_of l ls = refl

-- what is left at a place leads to what all leads to
pub broken_here : {X : Type 0} (f : X → Law) (xs : List X) (i : ℕ) (d : X) (law : Law) (whole : Option Law) → i < length xs → law ≡ f (get_or xs i d)
    → first_broken (map f (drop i xs)) ≡ whole → cond (law.held == law.due) (first_broken (map f (drop (i + 1) xs))) (Some law) ≡ whole
broken_here {X} f xs i d law whole low same before =
    ap (λ (l : Law). cond (l.held == l.due) (first_broken (map f (drop (i + 1) xs))) (Some l)) same
    ∙ sym (first_of (f (get_or xs i d)) (map f (drop (i + 1) xs)))
    ∙ ap (λ (n : ℕ). first_broken (f (get_or xs i d) ∷ map f (drop n xs))) (add-one i)
    ∙ ap (λ (ys : List X). first_broken (map f ys)) (sym (drop-cons xs i d low)) ∙ before

pub broken_step : {X : Type 0} (f : X → Law) (xs : List X) (i : ℕ) (d : X) (law : Law) (whole : Option Law) → i < length xs → law ≡ f (get_or xs i d)
    → (law.held == law.due) ≡ true → first_broken (map f (drop i xs)) ≡ whole → first_broken (map f (drop (i + 1) xs)) ≡ whole
broken_step f xs i d law whole low same kept before =
    sym (ap (λ (t : Bool). cond t (first_broken (map f (drop (i + 1) xs))) (Some law)) kept) ∙ broken_here f xs i d law whole low same before

pub broken_found : {X : Type 0} (f : X → Law) (xs : List X) (i : ℕ) (d : X) (law : Law) (whole : Option Law) → i < length xs → law ≡ f (get_or xs i d)
    → (law.held == law.due) ≡ false → first_broken (map f (drop i xs)) ≡ whole → Some law ≡ whole
broken_found f xs i d law whole low same broken before =
    sym (ap (λ (t : Bool). cond t (first_broken (map f (drop (i + 1) xs))) (Some law)) broken) ∙ broken_here f xs i d law whole low same before

pub broken_end : {X : Type 0} (f : X → Law) (xs : List X) (i : ℕ) (whole : Option Law) → length xs ≤ i → first_broken (map f (drop i xs)) ≡ whole → None ≡ whole
broken_end {X} f xs i whole past before = sym first_empty ∙ ap (λ (ys : List X). first_broken (map f ys)) (sym (drop_of_length-le xs {i = i} past)) ∙ before

-- the first law that is broken, of three lists of laws
pub first_of_three : (a b c : List Law) (law : Law) → first_broken a ≡ Some law → Some law ≡ first_broken (a ++ b ++ c)
first_of_three a b c law first = sym (first_in (a ++ b) c law (first_in a b law first))

pub second_of_three : (a b c : List Law) (law : Law) → first_broken a ≡ None → first_broken b ≡ Some law → Some law ≡ first_broken (a ++ b ++ c)
second_of_three a b c law none second = sym (first_in (a ++ b) c law (first_behind a b none ∙ second))

pub third_of_three : (a b c : List Law) → first_broken a ≡ None → first_broken b ≡ None → first_broken c ≡ first_broken (a ++ b ++ c)
third_of_three a b c none neither = sym (first_behind (a ++ b) c (first_behind a b none ∙ neither))

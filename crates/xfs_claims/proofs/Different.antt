-- Numbers that are put into a set from the last one on.
use Rattle.std.proofs.Common.{◌≡◌, ℕ, zero, suc, take, Bool, true, false, not, ◌+◌, ◌<◌, ◌≤◌, ◌||◌, ◌==◌, List, [], ◌∷◌, length, drop, get_or, refl, sym, ◌∙◌, ap, subst, arith, add-one, drop-cons, map}
use Rattle.std.specs.Ordering.{nat_cmp}
use Rattle.std.specs.List.{list_any, All}
use Rattle.std.proofs.lemmas.List.Elements.{All-cons, All-head, All-tail}
use Rattle.std.specs.BTreeMap.{is_at}
use Rattle.std.specs.BTreeSet.{insert_key}
use Rattle.std.proofs.lemmas.Bool.{not-true}
use Rattle.xfs_disk.specs.Lists.{is_among}
use Rattle.xfs_claims.specs.Ranks.{AreDifferent, own_number}
use Rattle.xfs_claims.proofs.Numbers.{insert_is, asked_is, among_more}
use Rattle.xfs_claims.proofs.Ordered.{any_map}

-- the numbers from a place on differ, and the set has these
pub record Later (numbers keys : List ℕ) (left : ℕ) : Type 0 where
  pub differ : AreDifferent own_number (drop left numbers)
  pub same : (b : ℕ) → is_among keys b ≡ is_among (drop left numbers) b
  pub inside : left ≤ length numbers

pub later_step : (numbers keys new : List ℕ) (before left : ℕ) (added : Bool) → before ≡ left + 1 → Later numbers keys before
    → added ≡ not (list_any (is_at (nat_cmp (get_or numbers left 0))) keys) → added ≡ true → new ≡ insert_key nat_cmp keys (get_or numbers left 0) → Later numbers new left
later_step numbers keys new before left added at so says is_added more =
    let n : ℕ = get_or numbers left 0 in
    let within : left < length numbers = omega (arith, at, so.inside) in
    let next : drop left numbers ≡ n ∷ drop (left + 1) numbers = rw (add-one, drop-cons numbers left 0 within) refl in
    let there : Later numbers keys (left + 1) = subst (λ (x : ℕ). Later numbers keys x) at so in
    let absent : is_among (drop (left + 1) numbers) n ≡ false =
    sym (there.same n) ∙ (sym (asked_is n keys) ∙ not-true (list_any (is_at (nat_cmp n)) keys) (sym says ∙ is_added)) in
    record {
      differ = subst (λ (x : List ℕ). AreDifferent own_number x) (sym next) (absent, there.differ);
      same = λ b.
          ap (λ (x : List ℕ). is_among x b) (more ∙ insert_is n keys)
          ∙ (among_more n keys b ∙ (ap (λ (t : Bool). (n == b) || t) (there.same b) ∙ sym (ap (λ (x : List ℕ). is_among x b) next)));
      inside = omega (arith, within);
    }

-- items differ where their numbers do
pub from_numbers : {X : Type 0} (number : X → ℕ) (xs : List X) → AreDifferent own_number (map number xs) → AreDifferent number xs
from_numbers number [] differ = tt
from_numbers number (x ∷ xs) differ = (sym (any_map number (number x) xs) ∙ differ.0, from_numbers number xs differ.1)

-- what holds of each up to the end of a list holds of each of it
pub all_from_take : {X : Type 0} (P : X → Type 0) (xs : List X) (i : ℕ) → length xs ≤ i → All P (take i xs) → All P xs
all_from_take P [] i past each = λ k d h. absurd (omega (arith, h))
all_from_take P (x ∷ xs) zero past each = absurd (omega (arith, past))
all_from_take P (x ∷ xs) (suc i) past each = All-cons P x xs (All-head P x (take i xs) each) (all_from_take P xs i (omega (arith, past)) (All-tail P x (take i xs) each))

-- How the numbers of blocks are judged one after another.
use Rattle.std.proofs.Common.{◌≡◌, ℕ, ◌+◌, ◌≤◌, ◌<◌, inl, inr, Bool, true, false, ◌&&◌, nat_le, if◌then◌else◌, List, length, Option, Some, None, refl, sym, ◌∙◌, subst, arith}
use Rattle.std.specs.Option.{MatchOption}
use Rattle.std.proofs.lemmas.Bool.{cases_eq, and_parts, and_from, leb-true, le-leb, true≢false}
use Rattle.xfs_place.specs.Choice.{AreJudged, Group, IsChosenCount, IsPlacingGroup, IsJudged, LeavesFree, claim_count, group, need, rank}
use Rattle.xfs_place.specs.declared.uses.Use.{Use}

-- none is judged yet
pub judged_none : (g : Group) → IsJudged g 0 None
judged_none g = record { rich = λ k low. absurd (omega (arith, low)); little = λ k low. absurd (omega (arith, low)) }

-- the test of a number
left_if : (g : Group) (low high n need' : ℕ) (t : Bool) → n ≤ rank g.uses (length g.uses) → need' ≡ need g n → t ≡ (nat_le (need' + low) n && nat_le n (need' + high)) → t ≡ true → LeavesFree g low high n
left_if g low high n need' t there is says passes =
    let parts = and_parts (nat_le (need' + low) n) (nat_le n (need' + high)) (sym says ∙ passes) in
    (there, omega (arith, is, leb-true (need' + low) n parts.0), omega (arith, is, leb-true n (need' + high) parts.1))

not_left : (g : Group) (low high n need' : ℕ) (t : Bool) → need' ≡ need g n → t ≡ (nat_le (need' + low) n && nat_le n (need' + high)) → t ≡ false → LeavesFree g low high n → ⊥
not_left g low high n need' t is says fails leaves =
    true≢false (sym (says ∙ and_from (nat_le (need' + low) n) (nat_le n (need' + high)) (le-leb (need' + low) n (omega (arith, is, leaves.1))) (le-leb n (need' + high) (omega (arith, is, leaves.2)))) ∙ fails)

-- one number more does not leave enough; it is the greatest of those that leave little where it does
pub judged_more : (g : Group) (n : ℕ) (poor : Option ℕ) (t : Bool) → IsJudged g n poor → (LeavesFree g 6 118 n → ⊥) → (t ≡ true → LeavesFree g 0 5 n) → (t ≡ false → LeavesFree g 0 5 n → ⊥)
    → IsJudged g (n + 1) (if t then Some n else poor)
judged_more g n poor true judged rich little none = record {
  rich = λ k low leaves. elim (cases_eq k n) [
    | inl same ↦ rich (subst (LeavesFree g 6 118) same leaves)
    | inr other ↦ judged.rich k (omega (arith, low, other)) leaves
  ];
  little = (little refl, omega arith, λ k high low. absurd (omega (arith, high, low)));
}
judged_more g n None false judged rich little none = record {
  rich = λ k low leaves. elim (cases_eq k n) [
    | inl same ↦ rich (subst (LeavesFree g 6 118) same leaves)
    | inr other ↦ judged.rich k (omega (arith, low, other)) leaves
  ];
  little = λ k low leaves. elim (cases_eq k n) [
    | inl same ↦ none refl (subst (LeavesFree g 0 5) same leaves)
    | inr other ↦ judged.little k (omega (arith, low, other)) leaves
  ];
}
judged_more g n (Some p) false judged rich little none = record {
  rich = λ k low leaves. elim (cases_eq k n) [
    | inl same ↦ rich (subst (LeavesFree g 6 118) same leaves)
    | inr other ↦ judged.rich k (omega (arith, low, other)) leaves
  ];
  little = (
    judged.little.0,
    omega (arith, judged.little.1),
    λ k high low leaves. elim (cases_eq k n) [
      | inl same ↦ none refl (subst (LeavesFree g 0 5) same leaves)
      | inr other ↦ judged.little.2 k high (omega (arith, low, other)) leaves
    ],
  );
}

-- the first that leaves enough is chosen
pub judged_rich : (g : Group) (n : ℕ) (poor : Option ℕ) → IsJudged g n poor → LeavesFree g 6 118 n → IsChosenCount g (Some n)
judged_rich g n poor judged leaves = inl (leaves, judged.rich)

-- where all are judged, the greatest that leaves little is chosen
pub judged_all : (g : Group) (n : ℕ) (poor : Option ℕ) → IsJudged g n poor → rank g.uses (length g.uses) < n → IsChosenCount g poor
judged_all g n None judged all =
    (λ k leaves. judged.rich k (omega (arith, leaves.0, all)) leaves, λ k leaves. judged.little k (omega (arith, leaves.0, all)) leaves)
judged_all g n (Some p) judged all =
    inr (λ k leaves. judged.rich k (omega (arith, leaves.0, all)) leaves, (judged.little.0, λ k high leaves. judged.little.2 k high (omega (arith, leaves.0, all)) leaves))

-- the loop's steps, of each group with these uses
module _ (uses : List Use) (inner records : ℕ) where
  pub all_none : AreJudged uses inner records 0 None
  all_none = record { each = λ claim is counted. judged_none (group uses claim inner) }

  pub all_more : (n need' : ℕ) (poor now : Option ℕ) (r t : Bool) → n ≤ rank uses (length uses) → AreJudged uses inner records n poor
      → ((claim : ℕ → Option (ℕ × ℕ)) → IsPlacingGroup (group uses claim inner) → claim_count (group uses claim inner) ≡ records → need' ≡ need (group uses claim inner) n)
      → r ≡ (nat_le (need' + 6) n && nat_le n (need' + 118)) → r ≡ false → t ≡ (nat_le (need' + 0) n && nat_le n (need' + 5)) → now ≡ (if t then Some n else poor)
      → AreJudged uses inner records (n + 1) now
  all_more n need' poor now r t there judged needed rich not_rich little is = record {
    each = λ claim group' counted.
        let g = group uses claim inner in
        let more = judged_more g n poor t (judged.each claim group' counted) (not_left g 6 118 n need' r (needed claim group' counted) rich not_rich)
        (left_if g 0 5 n need' t there (needed claim group' counted) little) (not_left g 0 5 n need' t (needed claim group' counted) little) in
        subst (IsJudged g (n + 1)) (sym is) more;
  }

  pub all_rich : (n need' : ℕ) (poor : Option ℕ) (r : Bool) → n ≤ rank uses (length uses) → AreJudged uses inner records n poor
      → ((claim : ℕ → Option (ℕ × ℕ)) → IsPlacingGroup (group uses claim inner) → claim_count (group uses claim inner) ≡ records → need' ≡ need (group uses claim inner) n)
      → r ≡ (nat_le (need' + 6) n && nat_le n (need' + 118)) → r ≡ true
      → (claim : ℕ → Option (ℕ × ℕ)) → IsPlacingGroup (group uses claim inner) → claim_count (group uses claim inner) ≡ records → IsChosenCount (group uses claim inner) (Some n)
  all_rich n need' poor r there judged needed rich is_rich claim group' counted =
      let g = group uses claim inner in
      judged_rich g n poor (judged.each claim group' counted) (left_if g 6 118 n need' r there (needed claim group' counted) rich is_rich)

  pub all_judged : (n : ℕ) (poor : Option ℕ) → AreJudged uses inner records n poor → rank uses (length uses) < n
      → (claim : ℕ → Option (ℕ × ℕ)) → IsPlacingGroup (group uses claim inner) → claim_count (group uses claim inner) ≡ records → IsChosenCount (group uses claim inner) poor
  all_judged n poor judged all claim group' counted = judged_all (group uses claim inner) n poor (judged.each claim group' counted) all

pub later_low : (poor now : Option ℕ) (n : ℕ) (t : Bool) → now ≡ (if t then Some n else poor) → MatchOption poor (Unit {0}) (λ p. p < n) → MatchOption now (Unit {0}) (λ p. p < n + 1)
later_low poor now n t is low = subst (λ (o : Option ℕ). MatchOption o (Unit {0}) (λ p. p < n + 1)) (sym is) (by_case poor t low)
  where
    by_case : (o : Option ℕ) (s : Bool) → MatchOption o (Unit {0}) (λ p. p < n) → MatchOption (if s then Some n else o) (Unit {0}) (λ p. p < n + 1)
    by_case o true h = omega arith
    by_case None false h = tt
    by_case (Some p) false h = omega (arith, h)

pub low_there : (o : Option ℕ) (n m : ℕ) → n ≤ m + 1 → MatchOption o (Unit {0}) (λ p. p < n) → MatchOption o (Unit {0}) (λ p. p ≤ m)
low_there None n m few low = tt
low_there (Some p) n m few low = omega (arith, few, low)

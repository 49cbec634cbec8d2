-- The last run that begins before an end decides whether blocks before that end are in a set.
use Rattle.std.proofs.Common.{◌≡◌, ℕ, Bool, true, false, ◌+◌, ◌≤◌, ◌<◌, inl, inr, ◌==◌, nat_lt, List, [], ◌∷◌, ◌++◌, refl, ◌∙◌, subst, arith}
use Rattle.std.specs.List.{filter}
use Rattle.std.specs.Ordering.{nat_cmp}
use Rattle.std.specs.BTreeMap.Range.{range_contains}
use Rattle.std.specs.declared.ops.Bound.TheVariants.{Unbounded, Excluded}
use Rattle.std.proofs.lemmas.Bool.{cases_lt, cases_order, or_from}
use Rattle.std.proofs.lemmas.Bool.Decides.{nat_tests}
use Rattle.std.proofs.Math.Bool.{or-false}
use Rattle.xfs_disk.specs.Lists.{is_in_range}
use Rattle.xfs_collections.specs.Blocks.{run_has, is_in, meets, RunsAscend}
use Rattle.xfs_collections.proofs.Meeting.{meets_none, meets_some}

-- no block before the first run is in the set
pub none_before : (low : ℕ) (runs : List (ℕ × ℕ)) (b : ℕ) → RunsAscend low runs → b < low → is_in runs b ≡ false
none_before low [] b up h = refl
none_before low (run ∷ rest) b up h =
    let here : run_has b run ≡ false = grind (arith, nat_tests, up.0) in
    or_from (run_has b run) (is_in rest b) here (none_before (run.0 + run.1) rest b up.2 (omega (arith, up.0, h)))

-- the test passes the runs that begin before the end
abbrev IsBefore : ℕ → (ℕ × ℕ → Bool) → Type 0
IsBefore end test = (run : ℕ × ℕ) → test run ≡ nat_lt run.0 end

-- where no run begins before the end, no block before it is in the set
none_passes : (end : ℕ) (test : ℕ × ℕ → Bool) → IsBefore end test → (low : ℕ) (runs : List (ℕ × ℕ)) → RunsAscend low runs → filter test runs ≡ []
    → (b : ℕ) → b < end → is_in runs b ≡ false
none_passes end test before low [] up none b h = refl
none_passes end test before low (run ∷ rest) up none b h =
    elim (cases_lt run.0 end) [
      | inl lt ↦ let e : nat_lt run.0 end ≡ true = grind (arith, nat_tests) in
          let passes : test run ≡ true = before run ∙ e in
          let taken : run ∷ filter test rest ≡ [] = rw passes at none in cc
      | inr ge ↦ none_before run.0 (run ∷ rest) b ((omega arith, up.1, up.2)) (omega (arith, h, ge))
    ]

-- the last of the runs that begin before the end
pub record IsLast (end low : ℕ) (runs : List (ℕ × ℕ)) (last : ℕ × ℕ) : Type 0 where
  pub from : low ≤ last.0
  pub below : last.0 < end
  pub some : 1 ≤ last.1
  pub has_block : (b : ℕ) → last.0 ≤ b → b < end → is_in runs b ≡ is_in_range last.0 last.1 b

first_last : (end low : ℕ) (run last : ℕ × ℕ) (rest : List (ℕ × ℕ)) → run.0 < end → RunsAscend low (run ∷ rest) → IsLast end (run.0 + run.1) rest last → IsLast end low (run ∷ rest) last
first_last end low run last rest lt up is = record {
  from = omega (arith, up.0, is.from);
  below = is.below;
  some = is.some;
  has_block = λ b from before.
      let here : run_has b run ≡ false = grind (arith, nat_tests, is.from, from) in
      let there = is.has_block b from before in
      rw here there;
}

pub last_of : (end : ℕ) (test : ℕ × ℕ → Bool) → IsBefore end test → (low : ℕ) (runs : List (ℕ × ℕ)) (front : List (ℕ × ℕ)) (last : ℕ × ℕ)
    → RunsAscend low runs → filter test runs ≡ front ++ last ∷ [] → IsLast end low runs last
last_of end test before low [] [] last up is = absurd (cc)
last_of end test before low [] (x ∷ front) last up is = absurd (cc)
last_of end test before low (run ∷ rest) [] last up is =
    elim (cases_lt run.0 end) [
      | inl lt ↦ let e : nat_lt run.0 end ≡ true = grind (arith, nat_tests) in
          let passes : test run ≡ true = before run ∙ e in
          let taken : run ∷ filter test rest ≡ last ∷ [] = rw passes at is in
          let same : run ≡ last = cc in
          let none : filter test rest ≡ [] = cc in
          subst (λ (x : ℕ × ℕ). IsLast end low (run ∷ rest) x) same (record {
            from = up.0;
            below = lt;
            some = up.1;
            has_block = λ b from h.
                let there : is_in rest b ≡ false = none_passes end test before (run.0 + run.1) rest up.2 none b h in
                rw there (or-false (run_has b run));
          })
      | inr ge ↦ let e : nat_lt run.0 end ≡ false = grind (arith, nat_tests) in
          let fails : test run ≡ false = before run ∙ e in
          let left : filter test rest ≡ last ∷ [] = rw fails at is in
          let later = last_of end test before (run.0 + run.1) rest [] last up.2 left in
          absurd (omega (arith, later.from, later.below))
    ]
last_of end test before low (run ∷ rest) (x ∷ front) last up is =
    elim (cases_lt run.0 end) [
      | inl lt ↦ let e : nat_lt run.0 end ≡ true = grind (arith, nat_tests) in
          let passes : test run ≡ true = before run ∙ e in
          let taken : run ∷ filter test rest ≡ x ∷ (front ++ last ∷ []) = rw passes at is in
          let left : filter test rest ≡ front ++ last ∷ [] = cc in
          first_last end low run last rest lt up (last_of end test before (run.0 + run.1) rest front last up.2 left)
      | inr ge ↦ let e : nat_lt run.0 end ≡ false = grind (arith, nat_tests) in
          let fails : test run ≡ false = before run ∙ e in
          let left : filter test rest ≡ x ∷ (front ++ last ∷ []) = rw fails at is in
          let later = last_of end test before (run.0 + run.1) rest (x ∷ front) last up.2 left in
          absurd (omega (arith, later.from, later.below))
    ]

-- blocks before the end meet the set where the last run ends behind the first of them
pub last_meets : (low : ℕ) (runs : List (ℕ × ℕ)) (last : ℕ × ℕ) (start count : ℕ) → 1 ≤ count → IsLast (start + count) low runs last
    → meets (is_in runs) start count ≡ nat_lt start (last.0 + last.1)
last_meets low runs last start count some is =
    elim (cases_lt start (last.0 + last.1)) [
      | inl behind ↦ let e : nat_lt start (last.0 + last.1) ≡ true = grind (arith, nat_tests) in
          elim (cases_lt start last.0) [
            | inl lt ↦ let there : is_in_range last.0 last.1 last.0 ≡ true = grind (arith, nat_tests, is.some) in
                rw e (meets_some (is_in runs) start count last.0 (omega arith) is.below (is.has_block last.0 (omega arith) is.below ∙ there))
            | inr ge ↦ let there : is_in_range last.0 last.1 start ≡ true = grind (arith, nat_tests) in
                rw e (meets_some (is_in runs) start count start (omega arith) (omega arith) (is.has_block start ge (omega arith) ∙ there))
          ]
      | inr ends ↦ let e : nat_lt start (last.0 + last.1) ≡ false = grind (arith, nat_tests) in
          rw e (meets_none (is_in runs) start count (λ b low high.
          let there : is_in_range last.0 last.1 b ≡ false = grind (arith, nat_tests) in
          is.has_block b (omega (arith, is.some)) high ∙ there))
    ]

pub none_meets : (low : ℕ) (runs : List (ℕ × ℕ)) (start count : ℕ) (test : ℕ × ℕ → Bool) → IsBefore (start + count) test → RunsAscend low runs → filter test runs ≡ []
    → meets (is_in runs) start count ≡ false
none_meets low runs start count test before up none =
    meets_none (is_in runs) start count (λ b from h. none_passes (start + count) test before low runs up none b h)

-- the bounds of a look-up in the map pass the runs that begin before the end
pub before_end : (end first : ℕ) → range_contains nat_cmp Unbounded (Excluded end) first ≡ nat_lt first end
before_end end first =
    elim (cases_order end first) [
      | inl same ↦ let e : nat_lt end first ≡ false = grind (arith, nat_tests) in
          let f : (end == first) ≡ true = grind (arith, nat_tests) in
          let h : nat_lt first end ≡ false = grind (arith, nat_tests) in
          rw (e, f, h) refl
      | inr other ↦ elim other [
        | inl lt ↦ let e : nat_lt end first ≡ true = grind (arith, nat_tests) in
            let h : nat_lt first end ≡ false = grind (arith, nat_tests) in
            rw (e, h) refl
        | inr gt ↦ let e : nat_lt end first ≡ false = grind (arith, nat_tests) in
            let f : (end == first) ≡ false = grind (arith, nat_tests) in
            let h : nat_lt first end ≡ true = grind (arith, nat_tests) in
            rw (e, f, h) refl
      ]
    ]

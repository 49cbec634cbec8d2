-- What a run at its place leaves.
use Rattle.std.proofs.Common.{◌≡◌, ℕ, Bool, true, false, ◌+◌, ◌≤◌, ◌<◌, inl, inr, ◌||◌, ◌==◌, nat_lt, List, [], ◌∷◌, refl, ap, arith}
use Rattle.std.specs.Ordering.{nat_cmp}
use Rattle.std.specs.BTreeMap.{insert_entry}
use Rattle.std.proofs.lemmas.Bool.{cases_lt, cases_order, or_parts, both_ways}
use Rattle.std.proofs.lemmas.Bool.Decides.{nat_tests}
use Rattle.xfs_disk.specs.Lists.{is_in_range}
use Rattle.xfs_collections.specs.Blocks.{run_has, is_in, placed, RunsAscend}

-- none of the blocks is in the set
abbrev pub IsApart : ℕ → ℕ → List (ℕ × ℕ) → Type 0
IsApart start count runs = (b : ℕ) → start ≤ b → b < start + count → is_in runs b ≡ false

or_swap : (x y z : Bool) → (x || (y || z)) ≡ (y || (x || z))
or_swap true true z = refl
or_swap true false z = refl
or_swap false true z = refl
or_swap false false z = refl

pub placed_blocks : (start count : ℕ) (runs : List (ℕ × ℕ)) (b : ℕ) → is_in (placed (start, count) runs) b ≡ (is_in_range start count b || is_in runs b)
placed_blocks start count [] b = refl
placed_blocks start count (next ∷ rest) b =
    elim (cases_lt next.0 start) [
      | inl lt ↦ let e : nat_lt next.0 start ≡ true = grind (arith, nat_tests) in
          rw (e, placed_blocks start count rest b) (or_swap (run_has b next) (is_in_range start count b) (is_in rest b))
      | inr ge ↦ let e : nat_lt next.0 start ≡ false = grind (arith, nat_tests) in rw e refl
    ]

-- the blocks apart from a first run, and from the rest
apart_rest : (start count : ℕ) (next : ℕ × ℕ) (rest : List (ℕ × ℕ)) → IsApart start count (next ∷ rest) → IsApart start count rest
apart_rest start count next rest apart b low high = (or_parts (run_has b next) (is_in rest b) (apart b low high)).1

apart_first : (start count : ℕ) (next : ℕ × ℕ) (rest : List (ℕ × ℕ)) → IsApart start count (next ∷ rest) → (b : ℕ) → start ≤ b → b < start + count → run_has b next ≡ false
apart_first start count next rest apart b low high = (or_parts (run_has b next) (is_in rest b) (apart b low high)).0

-- a run that begins before the blocks ends before them
ends_before : (start count : ℕ) (next : ℕ × ℕ) (rest : List (ℕ × ℕ)) → 1 ≤ count → IsApart start count (next ∷ rest) → next.0 ≤ start → next.0 + next.1 ≤ start
ends_before start count next rest some apart from =
    elim (cases_lt start (next.0 + next.1)) [
      | inl inside ↦ let there : run_has start next ≡ true = grind (arith, nat_tests) in
          absurd (both_ways (run_has start next) (apart_first start count next rest apart start (omega arith) (omega arith)) there)
      | inr ends ↦ ends
    ]

-- a run that begins behind the first of the blocks begins behind all of them
begins_behind : (start count : ℕ) (next : ℕ × ℕ) (rest : List (ℕ × ℕ)) → 1 ≤ next.1 → IsApart start count (next ∷ rest) → start ≤ next.0 → start + count ≤ next.0
begins_behind start count next rest some apart from =
    elim (cases_lt next.0 (start + count)) [
      | inl inside ↦ let there : run_has next.0 next ≡ true = grind (arith, nat_tests) in
          absurd (both_ways (run_has next.0 next) (apart_first start count next rest apart next.0 from inside) there)
      | inr behind ↦ behind
    ]

pub placed_ascends : (low start count : ℕ) (runs : List (ℕ × ℕ)) → low ≤ start → 1 ≤ count → RunsAscend low runs → IsApart start count runs → RunsAscend low (placed (start, count) runs)
placed_ascends low start count [] from some up apart = (from, some, tt)
placed_ascends low start count (next ∷ rest) from some up apart =
    elim (cases_lt next.0 start) [
      | inl lt ↦ let e : nat_lt next.0 start ≡ true = grind (arith, nat_tests) in
          let ends = ends_before start count next rest some apart (omega arith) in
          let later = placed_ascends (next.0 + next.1) start count rest ends some up.2 (apart_rest start count next rest apart) in
          rw e (up.0, up.1, later)
      | inr ge ↦ let e : nat_lt next.0 start ≡ false = grind (arith, nat_tests) in
          let behind = begins_behind start count next rest up.1 apart ge in
          rw e (from, some, (behind, up.1, up.2))
    ]

-- the map puts the run at that place
pub insert_is : (low start count : ℕ) (runs : List (ℕ × ℕ)) → 1 ≤ count → RunsAscend low runs → IsApart start count runs → insert_entry nat_cmp runs start count ≡ placed (start, count) runs
insert_is low start count [] some up apart = refl
insert_is low start count (next ∷ rest) some up apart =
    elim (cases_order start next.0) [
      | inl same ↦ let ends = ends_before start count next rest some apart (omega arith) in absurd (omega (arith, ends, same, up.1))
      | inr other ↦ elim other [
        | inl lt ↦ let e : nat_lt start next.0 ≡ true = grind (arith, nat_tests) in
            let f : nat_lt next.0 start ≡ false = grind (arith, nat_tests) in
            rw (e, f) refl
        | inr gt ↦ let e : nat_lt start next.0 ≡ false = grind (arith, nat_tests) in
            let f : nat_lt next.0 start ≡ true = grind (arith, nat_tests) in
            let g : (start == next.0) ≡ false = grind (arith, nat_tests) in
            rw (e, f, g) (ap (λ (xs : List (ℕ × ℕ)). next ∷ xs) (insert_is (next.0 + next.1) start count rest some up.2 (apart_rest start count next rest apart)))
      ]
    ]
